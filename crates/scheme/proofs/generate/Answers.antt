use mathlib.Core.Path.{◌≡◌, ap, ◌∙◌}
use mathlib.Core.Bool.{Bool, not}
use Rattle.std.specs.Bool.{then_some}
use mathlib.Core.List.{List}
use Prim.Native.Nat.{ℕ}
use lib.ListN.{length}
use Rattle.exactness.specs.Scheme as AnySetting
use Rattle.ring.specs.Ring.{sum, multiple}
use Rattle.ring.specs.Reciprocals.{has_zero}
use Rattle.ring.proofs.Transforms.{zero_decides}
use Rattle.scheme.specs.Scheme.{key_element}
use Rattle.scheme.specs.Answers.{if_invertible}
use borrow.Author.Rules.{rules}
use Rattle.scheme.proofs.generate.Goals as goal

pub returns : goal.returns
unfolding AnySetting.key_element
returns c =
    let made = c in
    let args = made.args in
    let b : made.multiple-b.result ≡ key_element args.a args.s args.e =
    made.multiple-b.ensures ∙ ap (multiple 5) (made.sum.ensures ∙ ap (λ (x : List ℕ). sum x args.e) made.product_with.ensures) in
    let size : length made.multiple-b.result ≡ 1024 = search rules in
    let unit = ap not (c.has_zero-zero.ensures ∙ ap has_zero c.forward.ensures) ∙ zero_decides made.multiple-b.result size in
    c.then_some.ensures ∙ ap (λ (x : Bool). then_some x made.multiple-b.result) unit ∙ ap (λ (x : List ℕ). if_invertible x x) b

use mathlib.Core.Path.{◌≡◌, ap, ap₂, ◌∙◌}
use mathlib.Core.Bool.{Bool, not}
use mathlib.Core.List.{List}
use Prim.Native.Nat.{ℕ}
use lib.ListN.{length}
use Rattle.std.specs.Bool.{then_some}
use Rattle.ring.specs.Reciprocals.{has_zero}
use Rattle.ring.proofs.Transforms.{zero_decides}
use Rattle.scheme.specs.declared.PublicKey.{PublicKey}
use Rattle.scheme.specs.Answers.{if_invertible}
use borrow.Author.Rules.{rules}
use Rattle.scheme.proofs.public_key.Goals as goal

pub returns : goal.returns
returns c =
    let args = c.args in
    let size : length args.b ≡ 1024 = search rules in
    let unit = ap not (c.has_zero-zero.ensures ∙ ap has_zero c.forward-b_spectrum.ensures) ∙ zero_decides args.b size in
    let key : List ℕ → List ℕ → PublicKey = λ a b. record { a = a; b = b } in
    c.then_some.ensures ∙ ap (λ (x : Bool). then_some x (key c.forward-a_spectrum.result c.forward-b_spectrum.result)) unit
    ∙ ap (if_invertible args.b) (ap₂ key c.forward-a_spectrum.ensures c.forward-b_spectrum.ensures)

use mathlib.Core.Path.{ap, ap₂, ◌∙◌}
use mathlib.Core.Bool.{◌&&◌}
use Prim.Native.Nat.{ℕ}
use lib.Dec.{eqb}
use Rattle.ring.specs.Ring.{product}
use Rattle.vectors.specs.Answers.{is_same}
use Rattle.ring_cases.proofs.product_agrees.Goals as goal

pub returns : goal.returns
returns c =
    let third = c in
    let found = c.product_with-found.ensures ∙ ap₂ product third.element-f.ensures third.element-g.ensures in
    ap₂ ◌&&◌ (ap (λ (k : ℕ). eqb k 0) c.number.ensures) (c.same_elements.ensures ∙ ap₂ is_same found third.element-expected.ensures)

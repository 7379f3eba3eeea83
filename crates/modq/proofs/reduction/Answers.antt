use mathlib.Core.Path.{ap, ◌∙◌}
use Prim.Native.Nat.{ℕ, ◌*◌, ◌/◌, ◌%◌}
use Rattle.modq.proofs.reduction.Goals as goal

pub returns : goal.returns
returns c =
    c.high.ensures
    ∙ ap (λ (n : ℕ). n * 59393 / 65536) (c.low-2.ensures ∙ ap (λ (n : ℕ). (n * 6145) % 65536) c.low.ensures)

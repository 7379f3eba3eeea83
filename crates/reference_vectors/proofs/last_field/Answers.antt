use mathlib.Core.Path.{sym, ap, ◌∙◌}
use Prim.Native.Nat.{ℕ, ◌+◌}
use native.Mathlib.Omega.{arith}
use Rattle.reference_vectors.specs.Cases.{last_field}
use Rattle.reference_vectors.proofs.last_field.Goals as goal

pub returns-in-Writing : goal.returns-in-Writing
returns-in-Writing c =
    let field = ap (λ (k : ℕ). k + 3) c.size_field.ensures.0 in
    (field ∙ sym (ap last_field c.in-Writing.is), omega (arith, c.size_field.ensures.1))

use mathlib.Core.Path.{refl, sym}
use native.Mathlib.Omega.{arith}
use Rattle.make_key_output.proofs.Keys.{other-answer}
use Rattle.make_key_output.proofs.keys_of.Goals as goal

pub returns-then-input-ne-INPUT_LENGTH : goal.returns-then-input-ne-INPUT_LENGTH
returns-then-input-ne-INPUT_LENGTH c = record { value = sym (other-answer _ c.if-input-eq-SEEDED_INPUT_LENGTH.false (λ e. omega (arith, c.if-input-ne-INPUT_LENGTH.true))); public_after = refl; secret_after = refl }

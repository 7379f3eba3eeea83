use mathlib.Core.Path.{ap, ◌∙◌}
use Prim.Native.Nat.{ℕ}
use lib.Dec.{eqb}
use Rattle.answers.specs.declared.Refusal.TheVariants.{InvalidCode}
use Rattle.answers.specs.Answers.{unless, Done}
use Rattle.records.specs.Records.{codes_answer}
use Rattle.records.proofs.check_codes.Goals as goal

pub returns : goal.returns
unfolding codes_answer
returns c =
    c.unless.ensures ∙ ap (λ (i : ℕ). unless (eqb i 1024) InvalidCode Done) c.first_invalid_code.ensures

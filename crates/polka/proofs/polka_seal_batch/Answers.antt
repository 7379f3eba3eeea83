use mathlib.Core.Path.{ap, ◌∙◌}
use Rattle.answers.specs.Locations.{code}
use Rattle.polka.proofs.polka_seal_batch.Goals as goal

pub returns : goal.returns
returns c =
    let made = c in record { value = c.code.ensures ∙ ap code made.seal_batch-answer.ensures.value; out_after = made.seal_batch-answer.ensures.out_after }

use mathlib.Core.Path.{ap, ◌∙◌}
use Rattle.answers.specs.Locations.{code}
use Rattle.polka.proofs.polka_encapsulate.Goals as goal

pub returns : goal.returns
returns c =
    let made = c.encapsulate-answer.ensures in record { value = c.code.ensures ∙ ap code made.value; out_after = made.out_after }

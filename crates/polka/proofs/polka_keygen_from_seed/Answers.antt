use mathlib.Core.Path.{ap, ◌∙◌}
use Rattle.answers.specs.Locations.{code}
use Rattle.polka.proofs.polka_keygen_from_seed.Goals as goal

pub returns : goal.returns
returns c =
    let made = c.keygen_from_seed-answer.ensures in
    record { value = c.code.ensures ∙ ap code made.value; public_after = made.public_after; secret_after = made.secret_after }

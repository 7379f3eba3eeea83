use mathlib.Core.Path.{ap, ◌∙◌}
use Rattle.answers.specs.Locations.{code}
use Rattle.calls.proofs.Promised.{check-export}
use Rattle.polka.proofs.polka_check_secret_key.Goals as goal

pub returns : goal.returns
returns c =
    let n = c.code.ensures ∙ ap code c.check_secret_key-answer.ensures.value in record { value = n; check_exact = check-export c.args.key.now n }

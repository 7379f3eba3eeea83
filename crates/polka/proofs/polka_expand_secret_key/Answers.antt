use mathlib.Core.Path.{ap, ◌∙◌}
use Rattle.answers.specs.Locations.{code}
use Rattle.conversion_calls.proofs.Promised.{expand-export}
use Rattle.polka.proofs.polka_expand_secret_key.Goals as goal

pub returns : goal.returns
returns c =
    let made = c in
    let args = made.args in
    let n = c.code.ensures ∙ ap code made.expand_secret_key-answer.ensures.value in
    let out = made.expand_secret_key-answer.ensures.out_after in record { value = n; out_after = out; expand_exact = expand-export args.key.now args.out.now n out }

use mathlib.Core.Path.{ap, ◌∙◌}
use Rattle.answers.specs.Locations.{code}
use Rattle.conversion_calls.proofs.Promised.{compact-export}
use Rattle.polka.proofs.polka_compact_secret_key.Goals as goal

pub returns : goal.returns
returns c =
    let made = c in
    let args = made.args in
    let n = c.code.ensures ∙ ap code made.compact_secret_key-answer.ensures.value in
    let out = made.compact_secret_key-answer.ensures.out_after in record { value = n; out_after = out; compact_exact = compact-export args.key.now args.out.now n out }

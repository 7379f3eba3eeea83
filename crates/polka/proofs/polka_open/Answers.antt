use mathlib.Core.Path.{ap, ◌∙◌}
use Rattle.answers.specs.Locations.{code}
use Rattle.calls.proofs.Promised.{open-export}
use Rattle.polka.proofs.polka_open.Goals as goal

pub returns : goal.returns
returns c =
    let made = c in
    let args = made.args in
    let n = c.code.ensures ∙ ap code made.open-answer.ensures.value in
    let out = made.open-answer.ensures.out_after in record { value = n; out_after = out; open_exact = open-export args.key.now args.sealed.now args.noise.now args.out.now n out }

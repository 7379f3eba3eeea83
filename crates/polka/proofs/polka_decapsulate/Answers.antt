use mathlib.Core.Path.{ap, ◌∙◌}
use Rattle.answers.specs.Locations.{code}
use Rattle.calls.proofs.Promised.{decapsulate-export}
use Rattle.polka.proofs.polka_decapsulate.Goals as goal

pub returns : goal.returns
returns c =
    let made = c in
    let args = made.args in
    let n = c.code.ensures ∙ ap code made.decapsulate-answer.ensures.value in
    let out = made.decapsulate-answer.ensures.out_after in record { value = n; out_after = out; decapsulate_exact = decapsulate-export args.key.now args.encapsulation.now args.dummy.now args.out.now n out }

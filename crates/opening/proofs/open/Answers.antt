use mathlib.Core.Path.{sym, ap, ◌∙◌}
use Rattle.std.specs.Prelude.{Err}
use Rattle.std.proofs.lemmas.Result.{err_from_is_err_and}
use lib.ListN.{length}
use Rattle.answers.specs.Answers.{number}
use Rattle.answers.proofs.AnswerLaws.{given-done, given-refused, then_passed, then-failed}
use Rattle.records.specs.Records.{body_part, tag_part}
use Rattle.calls.specs.Calls.{opened_answer}
use Rattle.calls.proofs.Promised.{open_promise}
use Rattle.opening.specs.declared.OpenedSealed.{OpenedSealed}
use Rattle.opening.specs.Parts.{opened_outcome}
use Rattle.opening.proofs.Laws.{entry_said}
use Rattle.opening.proofs.open.Goals as goal

pub returns-in_err-opened : goal.returns-in_err-opened
returns-in_err-opened c =
    let args = c.args in
    let k = args.key.now in
    let sealed = args.sealed.now in
    let noise = args.noise.now in
    let p = err_from_is_err_and c.from_residual.result c.from_residual.ensures.1 in
    let refused = given-refused _ (sym c.in_err-opened.was ∙ c.open_entry.ensures.value) in
    let opened = opened_answer (opened_outcome k sealed noise) (body_part sealed) (tag_part sealed) in
    let answer = p.1 ∙ ap Err p.2 ∙ sym (entry_said k sealed noise (length args.out.now) ∙ then-failed opened refused) in
    let out = c.open_entry.ensures.out_after in
    record { value = answer; out_after = out; open_exact = open_promise k sealed noise args.out.now (ap number answer) out }

pub returns : goal.returns
returns c =
    let args = c.args in
    let k = args.key.now in
    let sealed = args.sealed.now in
    let noise = args.noise.now in
    let made = given-done (sym c.in_ok-opened.was ∙ c.open_entry.ensures.value) in
    let opened = opened_answer (opened_outcome k sealed noise) (body_part sealed) (tag_part sealed) in
    let answer = ap (λ (o : OpenedSealed). o.answer) made.1 ∙ sym (entry_said k sealed noise (length args.out.now) ∙ then_passed opened made.0) in
    let out = c.open_entry.ensures.out_after in
    record { value = answer; out_after = out; open_exact = open_promise k sealed noise args.out.now (ap number answer) out }

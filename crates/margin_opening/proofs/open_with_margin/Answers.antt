use mathlib.Core.Path.{sym, ap, ap₂, ◌∙◌}
use mathlib.Core.List.{List}
use lib.ListN.{length}
use lib.IntN.{ℤ}
use Rattle.std.specs.Prelude.{Ok, Err}
use Rattle.std.proofs.lemmas.Result.{err_from_is_err_and}
use Rattle.margins.specs.Largest.{largest_size}
use Rattle.answers.specs.Answers.{Answer, and_then}
use Rattle.answers.proofs.AnswerLaws.{given-done, given-refused, then_passed, then-failed}
use Rattle.records.specs.Records.{body_part, tag_part}
use Rattle.calls.specs.Calls.{opened_answer}
use Rattle.opening.specs.declared.OpenedSealed.{OpenedSealed}
use Rattle.opening.specs.Parts.{opened_outcome}
use Rattle.opening.proofs.Laws.{entry_said}
use Rattle.margin_calls.specs.Calls.{open_margin}
use Rattle.margin_opening.proofs.Laws.{margin_promised}
use Rattle.margin_opening.proofs.open_with_margin.Goals as goal

pub returns-in_err-opened : goal.returns-in_err-opened
returns-in_err-opened c =
    let args = c.args in
    let k = args.key.now in
    let sealed = args.sealed.now in
    let noise = args.noise.now in
    let p = err_from_is_err_and c.from_residual.result c.from_residual.ensures.1 in
    let read = given-refused _ (sym c.in_err-opened.was ∙ c.open_entry.ensures.value) in
    let refused = entry_said k sealed noise (length args.out.now)
    ∙ then-failed (opened_answer (opened_outcome k sealed noise) (body_part sealed) (tag_part sealed)) read in
    let value = p.1 ∙ ap Err p.2 ∙ sym (then-failed (Ok (open_margin k sealed noise)) refused) in
    let out = c.open_entry.ensures.out_after in
    record { value = value; out_after = out; open_margin_exact = margin_promised k sealed noise args.out.now value out }

pub returns : goal.returns
unfolding open_margin
returns c =
    let args = c.args in
    let k = args.key.now in
    let sealed = args.sealed.now in
    let noise = args.noise.now in
    let made = given-done (sym c.in_ok-opened.was ∙ c.open_entry.ensures.value) in
    let said = entry_said k sealed noise (length args.out.now)
    ∙ then_passed (opened_answer (opened_outcome k sealed noise) (body_part sealed) (tag_part sealed)) made.0
    ∙ sym (ap (λ (o : OpenedSealed). o.answer) made.1) in
    let value = c.margin_of.ensures ∙ ap₂ (λ (a : Answer) (w : List ℤ). and_then a (Ok (largest_size w))) (sym said) (ap (λ (o : OpenedSealed). o.quotients) made.1) in
    let out = c.open_entry.ensures.out_after in
    record { value = value; out_after = out; open_margin_exact = margin_promised k sealed noise args.out.now value out }

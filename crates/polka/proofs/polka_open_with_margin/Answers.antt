use mathlib.Core.Path.{sym, ap, ◌∙◌}
use Rattle.answers.specs.Answers.{on_done, Answer}
use Rattle.answers.specs.Locations.{code}
use Rattle.answers.proofs.AnswerLaws.{given-done, given-refused, on_done_lem}
use Rattle.margin_calls.specs.Calls.{open_margin, open_margin_out}
use Rattle.margin_calls.proofs.Promised.{margin-export}
use Rattle.polka.proofs.polka_open_with_margin.Goals as goal

pub returns-in-Ok : goal.returns-in-Ok
unfolding open_margin_out
returns-in-Ok c =
    let args = c.args in
    let k = args.key.now in
    let sealed = args.sealed.now in
    let noise = args.noise.now in
    let old = args.out.now in
    let lent = args.margin.now in
    let opened = given-done (sym c.in-Ok.is ∙ c.open_with_margin.ensures.value) in
    let out = c.open_with_margin.ensures.out_after in
    let n = sym (ap code opened.0) in
    let value = opened.1 ∙ sym (on_done_lem (open_margin k sealed noise) lent opened.0) in
    record { value = n; out_after = out; margin_after = value; open_margin_exact = margin-export k sealed noise old lent n out value }

pub returns-in-Err : goal.returns-in-Err
unfolding open_margin_out
returns-in-Err c =
    let args = c.args in
    let k = args.key.now in
    let sealed = args.sealed.now in
    let noise = args.noise.now in
    let old = args.out.now in
    let lent = args.margin.now in
    let refused = sym (given-refused _ (sym c.in-Err.is ∙ c.open_with_margin.ensures.value)) in
    let out = c.open_with_margin.ensures.out_after in
    let n = c.code.ensures ∙ ap code refused in
    let value = ap (λ (a : Answer). on_done a (open_margin k sealed noise) lent) refused in
    record { value = n; out_after = out; margin_after = value; open_margin_exact = margin-export k sealed noise old lent n out value }

use mathlib.Core.Path.{sym, ap, ◌∙◌}
use lib.ListN.{length}
use Rattle.answers.specs.Answers.{on_done, Answer}
use Rattle.answers.specs.Locations.{code}
use Rattle.answers.proofs.AnswerLaws.{given-done, given-refused, on_done_lem}
use Rattle.batch_records.specs.Batches.{count_of}
use Rattle.batch_calls.specs.Calls.{open_batch_count}
use Rattle.batch_calls.proofs.Promised.{open-batch-export}
use Rattle.polka.proofs.polka_open_batch.Goals as goal

pub returns-in-Ok : goal.returns-in-Ok
unfolding open_batch_count
returns-in-Ok c =
    let args = c.args in
    let k = args.key.now in
    let batch = args.batch.now in
    let noise = args.noise.now in
    let old = args.out.now in
    let lent = args.count.now in
    let opened = given-done (sym c.in-Ok.is ∙ c.open_batch.ensures.value) in
    let out = c.open_batch.ensures.out_after in
    let n = sym (ap code opened.0) in
    let value = opened.1 ∙ sym (on_done_lem (count_of batch) lent opened.0) in
    record { value = n; out_after = out; count_after = value; open_batch_exact = open-batch-export k batch noise old lent n out value }

pub returns-in-Err : goal.returns-in-Err
unfolding open_batch_count
returns-in-Err c =
    let args = c.args in
    let k = args.key.now in
    let batch = args.batch.now in
    let noise = args.noise.now in
    let old = args.out.now in
    let lent = args.count.now in
    let refused = sym (given-refused _ (sym c.in-Err.is ∙ c.open_batch.ensures.value)) in
    let out = c.open_batch.ensures.out_after in
    let n = c.code.ensures ∙ ap code refused in
    let value = ap (λ (a : Answer). on_done a (count_of batch) lent) refused in
    record { value = n; out_after = out; count_after = value; open_batch_exact = open-batch-export k batch noise old lent n out value }

use mathlib.Core.Path.{refl, ap, ◌∙◌}
use lib.ListN.{length}
use Rattle.std.specs.Prelude.{Ok}
use Rattle.answers.specs.Answers.{number, and_then, given_or, Answer}
use Rattle.answers.proofs.AnswerLaws.{given_by, number_by}
use Rattle.batch_records.specs.Batches.{count_of}
use Rattle.batch_calls.specs.Calls.{open_batch_answer}
use Rattle.batch_calls.proofs.Lengths.{opening-fits}
use Rattle.batch_calls.proofs.Promised.{open-batch_promise}
use Rattle.batch_opening.proofs.Laws.{lengths_refused, checks_decide, count_by, out_by}
use Rattle.batch_opening.proofs.open_batch.Goals as goal

pub returns-then-not-fits : goal.returns-then-not-fits
returns-then-not-fits c =
    let args = c.args in
    let k = args.key.now in
    let batch = args.batch.now in
    let noise = args.noise.now in
    let old = args.out.now in
    let answer = lengths_refused k batch noise (length old) (c.if-not-fits.true) in
    let kept = out_by k batch noise old answer in
    record { value = ap (λ (a : Answer). and_then a (Ok (count_of batch))) answer; out_after = kept; open_batch_exact = open-batch_promise k batch noise old 0 (ap number answer) kept (count_by k batch noise (length old) 0 answer) }

pub open_records-requires : goal.open_records-requires
open_records-requires c =
    let left = c in
    let args = left.args in
    let (_, size, noise, room) =
    (opening-fits args.key.now args.batch.now args.noise.now (length args.out.now)).0 left.if-not-fits.false in
    (size, noise, room)

pub returns : goal.returns
returns c =
    let opened = c in
    let left = opened in
    let args = left.args in
    let k = args.key.now in
    let batch = args.batch.now in
    let noise = args.noise.now in
    let old = args.out.now in
    let same = checks_decide k batch noise (length old) left.if-not-fits.false in
    let value = opened.open_records.ensures.value ∙ ap (λ (a : Answer). and_then a (Ok (count_of batch))) same in
    let out = opened.open_records.ensures.out_after ∙ out_by k batch noise old same in
    let said = open_batch_answer k batch noise (length old) in
    let answer = ap number value ∙ number_by said (count_of batch) in
    let count = ap (given_or 0) value ∙ given_by said (count_of batch) 0 ∙ count_by k batch noise (length old) 0 refl in
    record { value = value; out_after = out; open_batch_exact = open-batch_promise k batch noise old 0 answer out count }

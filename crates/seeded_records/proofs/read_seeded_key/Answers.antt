use Rattle.std.proofs.Common.{rules}
use Rattle.answers.specs.Answers.{and_then}
use Rattle.records.specs.Records.{seeded_record_answer, words_answer}
use Rattle.seeded_records.proofs.read_seeded_key.Goals as goal

pub returns-in_err-check_header : goal.returns-in_err-check_header
unfolding seeded_record_answer
returns-in_err-check_header c = search rules

pub returns-in_err-place_answer : goal.returns-in_err-place_answer
unfolding seeded_record_answer words_answer
returns-in_err-place_answer c = search rules

pub returns : goal.returns
unfolding seeded_record_answer words_answer
returns c = search rules

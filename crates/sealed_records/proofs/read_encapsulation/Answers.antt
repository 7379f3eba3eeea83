use Rattle.std.proofs.Common.{rules}
use Rattle.records.specs.Records.{elements_answer, words_answer}
use Rattle.sealed_records.proofs.read_encapsulation.Goals as goal

pub returns-in_err-words_answer : goal.returns-in_err-words_answer
unfolding elements_answer words_answer
returns-in_err-words_answer c = search rules

pub returns : goal.returns
unfolding elements_answer words_answer
returns c = search rules

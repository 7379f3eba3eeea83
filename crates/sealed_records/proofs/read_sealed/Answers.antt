use mathlib.Core.Path.{sym, ◌∙◌}
use Rattle.std.proofs.Common.{rules}
use Rattle.std.proofs.lemmas.Result.{err_from_is_err_and}
use Rattle.records.specs.Records.{elements_answer, words_answer}
use Rattle.answers.proofs.AnswerLaws.{given-done, given-refused}
use Rattle.sealed_records.specs.Front.{sealed_front_answer}
use Rattle.sealed_records.proofs.read_sealed.Goals as goal

pub returns-in_err-read : goal.returns-in_err-read
unfolding sealed_front_answer
returns-in_err-read c =
    let h = given-refused _ (sym c.in_err-read.was ∙ c.read_record.ensures) in
    search (rules, h)

pub returns-in_err-between : goal.returns-in_err-between
unfolding sealed_front_answer
returns-in_err-between c =
    let h = given-done (sym c.in_ok-read.was ∙ c.read_record.ensures) in
    search (rules, h.0)

pub returns-in_err-sealed_words_answer : goal.returns-in_err-sealed_words_answer
unfolding sealed_front_answer elements_answer words_answer
returns-in_err-sealed_words_answer c =
    let h = given-done (sym c.in_ok-read.was ∙ c.read_record.ensures) in
    search (rules, h.0, h.1)

pub returns : goal.returns
unfolding sealed_front_answer elements_answer words_answer
returns c =
    let h = given-done (sym c.in_ok-read.was ∙ c.read_record.ensures) in
    search (rules, h.0, h.1)

use mathlib.Core.Path.{sym, ◌∙◌}
use Rattle.std.proofs.Common.{rules}
use Rattle.answers.proofs.AnswerLaws.{given-done, given-refused}
use Rattle.records.specs.Records.{words_answer, elements_answer}
use Rattle.secret_keys.specs.SecretKeys.{secret_words_answer}
use Rattle.secret_keys.specs.Read.{parts_answer}
use Rattle.secret_keys.proofs.read_parts.Goals as goal

pub returns-in_err-words_answer : goal.returns-in_err-words_answer
unfolding parts_answer secret_words_answer elements_answer words_answer
returns-in_err-words_answer c = search rules

pub returns-in_err-stored : goal.returns-in_err-stored
unfolding parts_answer secret_words_answer elements_answer words_answer
returns-in_err-stored c =
    let refused = given-refused _ (sym c.in_err-stored.was ∙ c.read_stored.ensures) in
    search (rules, refused)

pub returns-in_err-check_codes : goal.returns-in_err-check_codes
unfolding parts_answer secret_words_answer elements_answer words_answer
returns-in_err-check_codes c =
    let stored = given-done (sym c.in_ok-stored.was ∙ c.read_stored.ensures) in
    search (rules, stored.0)

pub returns : goal.returns
unfolding parts_answer secret_words_answer elements_answer words_answer
returns c =
    let stored = given-done (sym c.in_ok-stored.was ∙ c.read_stored.ensures) in
    search (rules, stored.0, stored.1)

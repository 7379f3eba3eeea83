use mathlib.Core.Path.{ap, ◌∙◌}
use Rattle.calls.specs.Calls.{check_answer}
use Rattle.case_outputs.specs.Outputs.{answer_told}
use Rattle.lists.proofs.Equal.{ap₃}
use Rattle.key_cases.proofs.check_agrees.Goals as goal

pub returns : goal.returns
returns c =
    let words = c in
    let told = words in
    let checked = told in
    let answer-is = checked.check_secret_key-answer.ensures.value ∙ ap check_answer checked.field.ensures in
    c.is_told.ensures ∙ ap₃ answer_told answer-is told.number.ensures words.field-2.ensures

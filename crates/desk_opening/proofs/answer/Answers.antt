use mathlib.Core.Path.{sym, ◌∙◌}
use Rattle.std.proofs.Common.{rules}
use Rattle.answers.proofs.AnswerLaws.{given-done, given-refused}
use Rattle.desk_opening.proofs.answer.Goals as goal

pub returns-in_err-open_input : goal.returns-in_err-open_input
returns-in_err-open_input c =
    let refused = given-refused _ (sym c.in_err-open_input.was ∙ c.open_input.ensures) in
    search (rules, refused)

pub returns : goal.returns
returns c = sym (given-done (sym c.in_ok-open_input.was ∙ c.open_input.ensures)).0

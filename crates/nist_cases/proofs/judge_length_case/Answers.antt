use mathlib.Core.Path.{sym, ap, ◌∙◌}
use Rattle.nist_cases.specs.Cases.{judged_message, judged_length}
use Rattle.nist_cases.proofs.judge_length_case.Goals as goal

pub returns-in_default : goal.returns-in_default
unfolding judged_length
returns-in_default c = rw (sym c.length_field.ensures ∙ c.in_default.is)

pub returns : goal.returns
unfolding judged_length
returns c =
    let read = c in
    rw (sym read.length_field.ensures ∙ c.in-Some.is)
    (c.judge_message.ensures ∙ ap (judged_message _ _ _) c.after_line.ensures)

use mathlib.Core.Path.{sym, ◌∙◌}
use Rattle.nist_cases.specs.Cases.{judged_counted}
use Rattle.nist_cases.proofs.judge_counted_case.Goals as goal

pub returns-then-not-is_count : goal.returns-then-not-is_count
unfolding judged_counted
returns-then-not-is_count c = rw (sym c.is_count.ensures ∙ c.if-not-is_count.true)

pub returns-in_default : goal.returns-in_default
unfolding judged_counted
returns-in_default c =
    let second = c in
    rw (
      sym second.is_count.ensures ∙ second.if-not-is_count.false,
      ← second.after_line-second.ensures,
      sym c.length_field.ensures ∙ c.in_default.is,
    )

pub returns : goal.returns
unfolding judged_counted
returns c =
    let read = c in
    let second = read in
    rw (
      sym second.is_count.ensures ∙ second.if-not-is_count.false,
      ← second.after_line-second.ensures,
      sym read.length_field.ensures ∙ c.in-Some.is,
      ← c.after_line.ensures,
    )
    c.judge_output.ensures

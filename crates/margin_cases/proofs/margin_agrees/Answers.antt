use borrow.Author.Tests.{ne_eqb}
use Rattle.margin_cases.specs.MarginCases.{margin_agrees}
use Rattle.margin_cases.proofs.margin_agrees.Goals as goal

pub returns-then-number-eq0 : goal.returns-then-number-eq0
unfolding margin_agrees
returns-then-number-eq0 c =
    let told = c in
    rw (← told.number.ensures, told.if-number-eq0.true, ← c.number-then-number-eq0.ensures)

pub returns : goal.returns
unfolding margin_agrees
returns c =
    let told = c in
    rw (← told.number.ensures, ne_eqb _ 0 told.if-number-eq0.false, ← c.field.ensures)

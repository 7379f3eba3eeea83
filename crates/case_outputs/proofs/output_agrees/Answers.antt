use borrow.Author.Tests.{ne_eqb}
use Rattle.case_outputs.proofs.output_agrees.Goals as goal

pub returns-then-told-eq0 : goal.returns-then-told-eq0
returns-then-told-eq0 c = rw c.if-told-eq0.true c.same.ensures

pub returns : goal.returns
returns c = rw (ne_eqb _ 0 c.if-told-eq0.false, c.is_filled.ensures)

use borrow.Author.Tests.{ne_eqb}
use Rattle.batch_cases.proofs.entries_agree.Goals as goal

pub returns-then-number-eq0 : goal.returns-then-number-eq0
returns-then-number-eq0 c = rw (← c.number.ensures, c.if-number-eq0.true) c.is_shown.ensures

pub returns : goal.returns
returns c = rw (← c.number.ensures, ne_eqb _ 0 c.if-number-eq0.false) c.is_kept.ensures

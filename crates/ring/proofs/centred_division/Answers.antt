use lib.Dec.{lit<}
use Rattle.ring.proofs.Signed.{quotient_fits, lowered-fits, lowered-quotient-fits, raised-fits, raised-quotient-fits, lowered_is, raised_is, kept_is}
use Rattle.ring.proofs.centred_division.Goals as goal

pub nonzero_rem-t : goal.nonzero_rem-t
nonzero_rem-t c = quotient_fits c.args.m c.ranges.m 5 (lit< tt)

pub nonzero_div-v : goal.nonzero_div-v
nonzero_div-v c = quotient_fits c.args.m c.ranges.m 5 (lit< tt)

pub overflow_sub-lowered : goal.overflow_sub-lowered
overflow_sub-lowered c = lowered-fits c.args.m c.ranges.m c.if-t-gt2.true

pub overflow_add-raised : goal.overflow_add-raised
overflow_add-raised c = lowered-quotient-fits c.args.m c.ranges.m c.if-t-gt2.true

pub returns-then-t-gt2 : goal.returns-then-t-gt2
returns-then-t-gt2 c = lowered_is c.args.m c.ranges.m c.if-t-gt2.true

pub overflow_add-raised-then-t-ltminus2 : goal.overflow_add-raised-then-t-ltminus2
overflow_add-raised-then-t-ltminus2 c = raised-fits c.args.m c.ranges.m c.if-t-ltminus2.true

pub overflow_sub-lowered-then-t-ltminus2 : goal.overflow_sub-lowered-then-t-ltminus2
overflow_sub-lowered-then-t-ltminus2 c = raised-quotient-fits c.args.m c.ranges.m c.if-t-ltminus2.true

pub returns-then-t-ltminus2 : goal.returns-then-t-ltminus2
returns-then-t-ltminus2 c = raised_is c.args.m c.ranges.m c.if-t-ltminus2.true

pub returns : goal.returns
returns c = kept_is c.args.m c.ranges.m c.if-t-gt2.false c.if-t-ltminus2.false

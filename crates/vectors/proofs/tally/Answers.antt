use Rattle.vectors.proofs.Cases.{counted_none, counted_more, counted_all}
use Rattle.vectors.proofs.tally.Goals as goal

pub loop-at-init : goal.loop-at-init
loop-at-init g c = λ sum verdict adds judges. counted_none sum verdict _ _ _ c.requires.some

pub loop-at-preserved : goal.loop-at-preserved
loop-at-preserved g c =
    λ sum verdict adds judges.
    let judged = judges _ _ c.judge.ensures in
    let added = adds _ _ _ _ c.add-so_far.ensures in
    counted_more (c.loop-at.invariant sum verdict adds judges) c.loop-at-test.true judged added c.after_case-at.ensures

pub returns : goal.returns
returns g c = λ sum verdict adds judges. counted_all (c.loop-at.invariant sum verdict adds judges) c.loop-at-test.false

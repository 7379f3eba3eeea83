use native.Mathlib.Omega.{arith}
use Rattle.reciprocals.proofs.Levels.{inverted_none, inverted_more, inverted_all}
use Rattle.reciprocals.proofs.invert_level.Goals as goal

pub loop-j-init : goal.loop-j-init
loop-j-init c = inverted_none _ _ _ (omega (arith, c.requires.0, c.requires.1))

pub loop-j-preserved : goal.loop-j-preserved
loop-j-preserved c =
    let at = c in
    let taken = c.loop-j-test.true in
    inverted_more taken at.loop-j.invariant c.mul.ensures c.mul-in-loop-j.ensures

pub returns : goal.returns
returns c = inverted_all c.loop-j.invariant c.loop-j-test.false

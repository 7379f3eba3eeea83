use native.Mathlib.Omega.{arith}
use Rattle.reciprocals.proofs.Levels.{multiplied_none, multiplied_more, multiplied_all}
use Rattle.reciprocals.proofs.multiply_level.Goals as goal

pub loop-j-init : goal.loop-j-init
loop-j-init c = multiplied_none _ _ (omega (arith, c.requires.0, c.requires.1))

pub loop-j-preserved : goal.loop-j-preserved
loop-j-preserved c =
    let at = c in
    multiplied_more c.loop-j-test.true at.loop-j.invariant c.mul.ensures

pub returns : goal.returns
returns c = multiplied_all c.loop-j.invariant c.loop-j-test.false

use Prim.Native.Nat.{◌-◌}
use Rattle.reciprocals.proofs.Levels.{Multiplied}
use Rattle.reciprocals.proofs.multiply_level.Given as goal

abbrev pub invariant-loop-j : goal.invariant-loop-j
invariant-loop-j l = Multiplied l.m l.initial.h l.h l.j

abbrev pub decreases-loop-j : goal.decreases-loop-j
decreases-loop-j l = l.m - l.j

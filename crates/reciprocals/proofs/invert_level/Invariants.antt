use Prim.Native.Nat.{◌-◌}
use Rattle.reciprocals.proofs.Levels.{Inverted}
use Rattle.reciprocals.proofs.invert_level.Given as goal

abbrev pub invariant-loop-j : goal.invariant-loop-j
invariant-loop-j l = Inverted l.m l.h l.initial.r l.r l.j

abbrev pub decreases-loop-j : goal.decreases-loop-j
decreases-loop-j l = l.m - l.j

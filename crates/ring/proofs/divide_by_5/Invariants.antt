use Prim.Native.Nat.{◌-◌}
use Rattle.lists.proofs.Fill.{Filled}
use Rattle.ring.specs.Ring.{n}
use Rattle.ring.specs.Centred.{remainders, quotients}
use Rattle.ring.proofs.divide_by_5.Given as goal

abbrev pub invariant-loop-k : goal.invariant-loop-k
invariant-loop-k l = Filled n (remainders l.m) l.r l.k × Filled n (quotients l.m) l.w l.k

abbrev pub decreases-loop-k : goal.decreases-loop-k
decreases-loop-k l = n - l.k

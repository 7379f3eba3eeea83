use Prim.Native.Nat.{◌-◌}
use Rattle.lists.proofs.Fill.{Filled}
use Rattle.ring.specs.Ring.{n, difference}
use Rattle.ring.proofs.difference.Given as goal

abbrev pub invariant-loop-k : goal.invariant-loop-k
invariant-loop-k l = Filled n (difference l.a l.b) l.r l.k

abbrev pub decreases-loop-k : goal.decreases-loop-k
decreases-loop-k l = n - l.k

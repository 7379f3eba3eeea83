use Prim.Native.Nat.{◌-◌}
use Rattle.lists.proofs.Fill.{Filled}
use Rattle.ring.specs.Ring.{n, sum}
use Rattle.ring.proofs.sum.Given as goal

abbrev pub invariant-loop-k : goal.invariant-loop-k
invariant-loop-k l = Filled n (sum l.a l.b) l.r l.k

abbrev pub decreases-loop-k : goal.decreases-loop-k
decreases-loop-k l = n - l.k

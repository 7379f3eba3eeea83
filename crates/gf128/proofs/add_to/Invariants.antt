use Prim.Native.Nat.{◌-◌}
use Rattle.gf128.proofs.InPlace.{Added}
use Rattle.gf128.proofs.add_to.Given as goal

abbrev pub invariant-loop-k : goal.invariant-loop-k
invariant-loop-k l = Added l.n l.a l.initial.out l.out l.k

abbrev pub decreases-loop-k : goal.decreases-loop-k
decreases-loop-k l = l.n - l.k

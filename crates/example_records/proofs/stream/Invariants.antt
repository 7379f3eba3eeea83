use Prim.Native.Nat.{◌-◌}
use Rattle.example_records.proofs.Streams.{Written}
use Rattle.example_records.proofs.stream.Given as goal

abbrev pub invariant-loop-k : goal.invariant-loop-k
invariant-loop-k l = Written l.words l.low l.high l.s l.k

abbrev pub decreases-loop-k : goal.decreases-loop-k
decreases-loop-k l = l.words - l.k

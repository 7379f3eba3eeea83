use Prim.Native.Nat.{◌*◌, ◌-◌}
use lib.ListN.{length}
use Rattle.lists.specs.Table.{table}
use Rattle.lists.proofs.Fill.{Filled}
use Rattle.state_to_string.specs.Bytes.{byte_of}
use Rattle.state_to_string.proofs.put_bytes.Given as goal

abbrev pub invariant-loop-k : goal.invariant-loop-k
invariant-loop-k l = Filled (length l.initial.out) (table (length l.initial.out) (byte_of l.s)) l.out (8 * l.k)

abbrev pub decreases-loop-k : goal.decreases-loop-k
decreases-loop-k l = l.n - l.k

use Prim.Native.Nat.{◌-◌}
use lib.ListN.{get_or}
use Rattle.lists.specs.Table.{table}
use Rattle.lists.proofs.Fill.{ZeroFilled}
use Rattle.ring.specs.Ring.{n}
use Rattle.encoding.specs.Words.{words}
use Rattle.encoding.proofs.decode_element.Given as goal

abbrev pub invariant-loop-k : goal.invariant-loop-k
invariant-loop-k l = ZeroFilled n (table l.count (λ k'. get_or (words l.bytes) k' 0)) l.a l.k

abbrev pub decreases-loop-k : goal.decreases-loop-k
decreases-loop-k l = l.count - l.k

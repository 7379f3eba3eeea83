use Prim.Native.Nat.{◌-◌, ◌*◌}
use Rattle.lists.specs.Table.{table}
use Rattle.lists.proofs.Fill.{ZeroFilled}
use Rattle.ring.specs.Ring.{q, n}
use Rattle.encoding.specs.Codes.{code_at, coefficient_of}
use Rattle.encoding.proofs.decode_ternary.Given as goal

abbrev pub invariant-loop-i : goal.invariant-loop-i
invariant-loop-i l = ZeroFilled n (table (4 * l.count) (λ k. coefficient_of q (code_at l.bytes k))) l.t (4 * l.i)

abbrev pub decreases-loop-i : goal.decreases-loop-i
decreases-loop-i l = l.count - l.i

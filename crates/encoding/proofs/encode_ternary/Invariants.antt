use Prim.Native.Nat.{◌-◌}
use Rattle.ring.specs.Ring.{q}
use Rattle.encoding.specs.Codes.{packed_at}
use Rattle.encoding.proofs.Buffers.{Put}
use Rattle.encoding.proofs.encode_ternary.Given as goal

abbrev pub invariant-loop-i : goal.invariant-loop-i
invariant-loop-i l = Put 256 (packed_at q l.t) l.initial.out l.out l.i

abbrev pub decreases-loop-i : goal.decreases-loop-i
decreases-loop-i l = 256 - l.i

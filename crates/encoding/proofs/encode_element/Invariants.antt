use Prim.Native.Nat.{◌-◌, ◌*◌}
use Rattle.encoding.specs.Digits.{digit_at}
use Rattle.encoding.proofs.Buffers.{Put}
use Rattle.encoding.proofs.encode_element.Given as goal

abbrev pub invariant-loop-k : goal.invariant-loop-k
invariant-loop-k l = Put 2048 (digit_at 256 2 l.a) l.initial.out l.out (2 * l.k)

abbrev pub decreases-loop-k : goal.decreases-loop-k
decreases-loop-k l = 1024 - l.k

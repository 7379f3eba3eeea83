use mathlib.Core.Path.{refl, sym}
use native.Mathlib.Omega.{arith}
use Rattle.encoding.specs.Codes.{packed}
use Rattle.encoding.proofs.Codes.{length-ternary_bytes}
use Rattle.encoding.proofs.Buffers.{put_none, put_next, put-done, put_short}
use Rattle.encoding.proofs.encode_ternary.Goals as goal

pub loop-i-init : goal.loop-i-init
loop-i-init c = put_none 256 _ _ (omega arith)

pub bounds-out-i : goal.bounds-out-i
bounds-out-i c = omega (arith, c.loop-i.invariant.size, c.loop-i.invariant.room)

pub loop-i-preserved : goal.loop-i-preserved
loop-i-preserved c = put_next c.loop-i.invariant (omega arith) c.packed.ensures refl

pub shape_of-out : goal.shape_of-out
shape_of-out c = c.loop-i.invariant.size

pub returns-after-loop-i : goal.returns-after-loop-i
unfolding packed
returns-after-loop-i c = put-done c.loop-i.invariant (omega arith)

pub returns-else-out-ge-TERNARY_LENGTH : goal.returns-else-out-ge-TERNARY_LENGTH
returns-else-out-ge-TERNARY_LENGTH c = sym (put_short _ _ (rw length-ternary_bytes c.if-out-ge-TERNARY_LENGTH.false))

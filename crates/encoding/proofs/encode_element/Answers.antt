use mathlib.Core.Path.{refl, sym, ap, ◌∙◌}
use mathlib.Core.List.{List}
use Prim.Native.Nat.{ℕ}
use native.Mathlib.Omega.{arith}
use lib.ListN.{get_or, length-set}
use Rattle.encoding.specs.Words.{bytes_of}
use Rattle.encoding.proofs.Digits.{digit-first, digit-in}
use Rattle.encoding.proofs.Words.{length-element_bytes}
use Rattle.encoding.proofs.Buffers.{put_none, put_next, put-done, put_short}
use Rattle.encoding.proofs.encode_element.Goals as goal

pub loop-k-init : goal.loop-k-init
loop-k-init c = put_none 2048 _ _ (omega arith)

pub bounds-out-k : goal.bounds-out-k
bounds-out-k c = omega (arith, c.loop-k.invariant.size, c.loop-k.invariant.room)

pub bounds-out-k-in-loop-k : goal.bounds-out-k-in-loop-k
bounds-out-k-in-loop-k c = simp length-set (omega (arith, c.loop-k.invariant.size, c.loop-k.invariant.room))

pub loop-k-preserved : goal.loop-k-preserved
loop-k-preserved c =
    let a = c.args.a in
    let k = c.loop-k.k in
    let bytes = c.to_le_bytes.ensures in
    let low = ap (λ (l : List ℕ). get_or l 0 0) bytes ∙ sym (digit-first 256 2 a k (omega arith)) in
    let high = ap (λ (l : List ℕ). get_or l 1 0) bytes ∙ sym (digit-in 256 2 a k 1 (omega arith)) in
    put_next (put_next c.loop-k.invariant (omega arith) low refl) (omega arith) high (omega arith)

pub shape_of-out : goal.shape_of-out
shape_of-out c = c.loop-k.invariant.size

pub returns-after-loop-k : goal.returns-after-loop-k
unfolding bytes_of
returns-after-loop-k c = put-done c.loop-k.invariant (omega arith)

pub returns-else-out-ge-ELEMENT_LENGTH : goal.returns-else-out-ge-ELEMENT_LENGTH
returns-else-out-ge-ELEMENT_LENGTH c = sym (put_short _ _ (rw length-element_bytes c.if-out-ge-ELEMENT_LENGTH.false))

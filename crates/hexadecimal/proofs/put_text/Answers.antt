use mathlib.Core.Path.{◌≡◌, refl, sym, ap, ◌∙◌}
use Prim.Native.Nat.{ℕ, ◌+◌, ◌*◌, ◌/◌, ◌%◌, ◌<◌}
use native.Mathlib.Omega.{arith}
use lib.ListN.{length, get_or, take}
use Rattle.lists.proofs.Fill.{filled_none, filled_more, filled-all}
use lib.Seq.{length-take-le, get_or-take}
use Rattle.hexadecimal.proofs.Text.{length_text, text_high, text_low}
use Rattle.hexadecimal.specs.Hex.{text_of, digit_of}
use Rattle.hexadecimal.proofs.put_text.Goals as goal
use Rattle.hexadecimal.proofs.put_text.Goals.{then-i-eq0, else-i-eq0}

pub loop-i-init : goal.loop-i-init
loop-i-init c =
    let bytes = c.args.bytes.now in
    let out = c.args.out.now in
    filled_none (take (length out) (text_of bytes)) out
    (length-take-le (length out) (text_of bytes) (rw (length_text bytes) c.requires)) refl

pub loop-i-preserved : goal.loop-i-preserved
loop-i-preserved c =
    let at-loop = c in
    let i = at-loop.loop-i.i in
    let bytes = at-loop.args.bytes.now in
    let out = at-loop.args.out.now in
    let h : i < length out = omega arith in
    let g : i / 2 < length bytes = omega arith in
    let b : get_or bytes (i / 2) 0 < 256 = omega (arith, c.type_inv.bytes (i / 2)) in
    let v : c.if-i-eq0.out ≡ get_or (text_of bytes) i 0 =
    elim c.if-i-eq0.branch [
      | then-i-eq0 w ↦
          let e : 2 * (i / 2) ≡ i = omega (arith, w.if-i-eq0.true) in
          let n : get_or bytes (i / 2) 0 / 16 % 16 ≡ get_or bytes (i / 2) 0 / 16 = omega arith in
          w.out-is ∙ w.digit.ensures ∙ ap digit_of n ∙ sym (text_high bytes (i / 2) g) ∙ ap (λ (k : ℕ). get_or (text_of bytes) k 0) e
      | else-i-eq0 w ↦
          let e : 2 * (i / 2) + 1 ≡ i = omega (arith, w.if-i-eq0.false) in
          w.out-is ∙ w.digit-else-i-eq0.ensures ∙ sym (text_low bytes (i / 2) g) ∙ ap (λ (k : ℕ). get_or (text_of bytes) k 0) e
    ] in
    filled_more 0 at-loop.loop-i.invariant h (v ∙ sym (get_or-take (length out) (text_of bytes) i 0 h))

pub returns : goal.returns
returns c = filled-all c.loop-i.invariant (omega arith)

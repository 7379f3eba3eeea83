use mathlib.Core.Path.{◌≡◌, refl, sym, ◌∙◌}
use Prim.Native.Nat.{◌+◌, ◌*◌, ◌<◌, ◌≤◌}
use native.Mathlib.Omega.{arith}
use lib.ListN.{length, get_or, take}
use Rattle.lists.proofs.Fill.{filled_none, filled_more, filled-all}
use lib.Seq.{length-take-le, get_or-take}
use Rattle.lists.proofs.Scan.{first-within}
use Rattle.hexadecimal.proofs.Text.{length-bytes, byte_at, value-lt}
use Rattle.hexadecimal.specs.Hex.{is_digit, bytes_of}
use Rattle.hexadecimal.proofs.put_bytes.Goals as goal

pub loop-i-init : goal.loop-i-init
loop-i-init c =
    let text = c.args.text.now in
    let out = c.args.out.now in
    let h : length out ≤ length (bytes_of text) = omega (arith, length-bytes text, first-within is_digit text) in
    filled_none (take (length out) (bytes_of text)) out (length-take-le (length out) (bytes_of text) h) refl

pub bounds-text-i : goal.bounds-text-i
bounds-text-i c = omega (arith, first-within is_digit c.args.text.now)

pub overflow_mul-out : goal.overflow_mul-out
overflow_mul-out c =
    omega (arith, value-lt c.args.text.now (2 * c.loop-i.i) (omega arith), c.value.ensures)

pub bounds-text-i-in-loop-i : goal.bounds-text-i-in-loop-i
bounds-text-i-in-loop-i c = omega (arith, first-within is_digit c.args.text.now)

pub overflow_add-out : goal.overflow_add-out
overflow_add-out c =
    let i = c.loop-i.i in
    let text = c.args.text.now in
    omega (arith, value-lt text (2 * i) (omega arith), value-lt text (2 * i + 1) (omega arith), c.value-in-loop-i.ensures, c.value.ensures)

pub loop-i-preserved : goal.loop-i-preserved
loop-i-preserved c =
    let at-loop = c in
    let i = at-loop.loop-i.i in
    let text = at-loop.args.text.now in
    let out = at-loop.args.out.now in
    let h : i < length out = omega arith in
    let g : 2 * i + 1 < length text = omega (arith, first-within is_digit text) in
    let v : 16 * c.value.result + c.value-in-loop-i.result ≡ get_or (bytes_of text) i 0 =
    rw (c.value.ensures, c.value-in-loop-i.ensures) (sym (byte_at text i g)) in
    filled_more 0 at-loop.loop-i.invariant h (v ∙ sym (get_or-take (length out) (bytes_of text) i 0 h))

pub returns : goal.returns
returns c = filled-all c.loop-i.invariant (omega arith)

use mathlib.Core.Path.{sym, ap, ◌∙◌}
use Prim.Native.Nat.{ℕ, min}
use native.Mathlib.Omega.{arith}
use lib.ListN.{length, take}
use lib.Seq.{length-take-le}
use Rattle.hexadecimal.specs.Hex.{text_of}
use Rattle.hexadecimal.proofs.Text.{length_text, written-front}
use Rattle.hexadecimal.proofs.encode.Goals as goal

pub slice_bounds-put_text-end-2 : goal.slice_bounds-put_text-end-2
slice_bounds-put_text-end-2 c = sym (length-take-le c.min-n.result c.args.out.now (omega arith))

pub put_text-requires : goal.put_text-requires
put_text-requires c = omega (arith, length-take-le c.min-n.result c.args.out.now (omega arith))

pub returns : goal.returns
returns c =
    let called = c in
    let bytes = called.args.bytes.now in
    let out = called.args.out.now in
    written-front (text_of bytes) out
    (called.min-n.ensures ∙ ap (λ (k : ℕ). min k (length out)) (sym (length_text bytes)))
    (c.put_text.ensures ∙ ap (λ (k : ℕ). take k (text_of bytes)) (length-take-le c.min-n.result c.args.out.now (omega arith)))

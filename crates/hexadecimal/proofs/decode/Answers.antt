use mathlib.Core.Path.{◌≡◌, sym, ap, ◌∙◌}
use Prim.Native.Nat.{ℕ, ◌/◌, ◌≤◌, min}
use native.Mathlib.Omega.{arith}
use lib.ListN.{length, take}
use lib.Seq.{length-take-le, take-take}
use Rattle.lists.specs.First.{first_failing}
use Rattle.hexadecimal.specs.Hex.{is_digit, bytes_of, decoded}
use Rattle.hexadecimal.proofs.Text.{length-decoded, written-front}
use Rattle.hexadecimal.proofs.decode.Goals as goal

pub slice_bounds-put_bytes-end-2 : goal.slice_bounds-put_bytes-end-2
slice_bounds-put_bytes-end-2 c = sym (length-take-le c.min-n.result c.args.out.now (omega arith))

pub put_bytes-requires : goal.put_bytes-requires
put_bytes-requires c = omega (arith, length-take-le c.min-n.result c.args.out.now (omega arith))

pub returns : goal.returns
returns c =
    let called = c in
    let text = called.args.text.now in
    let out = called.args.out.now in
    let pairs : called.count_digits.result / 2 ≡ length (decoded text) =
    ap (λ (k : ℕ). k / 2) called.count_digits.ensures ∙ sym (length-decoded text) in
    let n : called.min-n.result ≡ min (length (decoded text)) (length out) =
    called.min-n.ensures ∙ ap (λ (k : ℕ). min k (length out)) pairs in
    let within : called.min-n.result ≤ first_failing is_digit text / 2 = omega (arith, length-decoded text) in record {
      value = n;
      out_after = written-front (decoded text) out n
          (c.put_bytes.ensures ∙ ap (λ (k : ℕ). take k (bytes_of text)) (length-take-le c.min-n.result c.args.out.now (omega arith)) ∙ sym (take-take _ _ (bytes_of text) within));
    }

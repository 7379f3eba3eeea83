-- A text that is bytes in hexadecimal and nothing else: what decoding makes of it.
use mathlib.Core.Path.{◌≡◌, ◌∙◌}
use mathlib.Core.Bool.{Bool, true, false, ◌&&◌, false≢true}
use mathlib.Core.List.{List}
use Prim.Native.Nat.{ℕ, ◌*◌, ◌/◌, ◌<◌, ◌≤◌, min}
use native.Mathlib.Omega.{arith}
use lib.Dec.{ltb, leb, eqb}
use lib.ListN.{length, take}
use lib.Seq.{take_all, take-append-le}
use borrow.Author.Tests.{ltb-true, leb-true, eqb-true, lt-ltb, le-leb, eq-eqb}
use Rattle.lists.specs.First.{first_failing}
use Rattle.lists.proofs.Both.{both}
use Rattle.lists.proofs.Scan.{first-within}
use Rattle.hexadecimal.specs.Hex.{is_digit, bytes_of, decoded, written}
use Rattle.hexadecimal.proofs.Text.{length-bytes, length-decoded}
use Rattle.response_files.specs.Fields.{is_hex}
use Rattle.response_files.proofs.Lines.{same_test}

pub record Hex (room size : ℕ) (text : List ℕ) : Type 0 where
  pub some : 0 < size
  pub most : size ≤ room
  pub pairs : length text ≡ 2 * size
  pub digits : first_failing is_digit text ≡ length text

module _ (room size : ℕ) (text : List ℕ) where
  pub hex_facts : is_hex room size text ≡ true → Hex room size text
  unfolding is_hex
  hex_facts e =
      let (sizes, digits) =
      both (ltb 0 size && leb size room && eqb (length text) (2 * size)) (eqb (first_failing is_digit text) (length text)) e in
      let (within, pairs) = both (ltb 0 size && leb size room) (eqb (length text) (2 * size)) sizes in
      let (some, most) = both (ltb 0 size) (leb size room) within in
      record {
        some = ltb-true 0 size some;
        most = leb-true size room most;
        pairs = eqb-true (length text) (2 * size) pairs;
        digits = eqb-true (first_failing is_digit text) (length text) digits;
      }

  hex_is : Hex room size text → is_hex room size text ≡ true
  unfolding is_hex
  hex_is h = rw (lt-ltb 0 size h.some, le-leb size room h.most, eq-eqb (length text) (2 * size) h.pairs, eq-eqb _ _ h.digits)

  -- a test of how many bytes were decoded
  module _ (n : ℕ) (e : n ≡ min (length (decoded text)) room) where
    pub hex_test : (r : Bool) → (r ≡ true → (0 < n) × (n ≡ size) × (length text ≡ 2 * n))
        → (0 < n → n ≡ size → length text ≡ 2 * n → r ≡ true) → r ≡ is_hex room size text
    hex_test r f g = same_test r (is_hex room size text) (λ t. whole (f t)) (λ t. back (hex_facts t))
      where
        whole : (0 < n) × (n ≡ size) × (length text ≡ 2 * n) → is_hex room size text ≡ true
        whole (o, s, p) =
            hex_is
            (record {
              some = omega arith;
              most = omega arith;
              pairs = omega arith;
              digits = omega (arith, length-decoded text, first-within is_digit text);
            })

        back : Hex room size text → r ≡ true
        back h =
            let s : n ≡ size = omega (arith, length-decoded text, h.most, h.pairs, h.digits) in
            g (omega (arith, h.some)) s (omega (arith, h.pairs))

    pub not_hex : (0 < n → n ≡ size → ⊥) → false ≡ is_hex room size text
    not_hex d = hex_test false (λ t. absurd (false≢true t)) (λ o s p. absurd (d o s))

  module _ (e : is_hex room size text ≡ true) where
    pub length_hex : length (bytes_of text) ≡ size
    length_hex = omega (arith, length-bytes text, (hex_facts e).pairs)

    -- what is decoded into a buffer that has room
    pub hex-decoded : (out : List ℕ) → size ≤ length out → take size (written (decoded text) out) ≡ bytes_of text
    hex-decoded out fits =
        let all : decoded text ≡ bytes_of text =
        take_all (first_failing is_digit text / 2) (bytes_of text) (omega (arith, length_hex, (hex_facts e).pairs, (hex_facts e).digits)) in
        let front : take (length out) (bytes_of text) ≡ bytes_of text = take_all (length out) (bytes_of text) (omega (arith, length_hex)) in
        rw (all, front)
        (take-append-le size (bytes_of text) _ (omega (arith, length_hex)) ∙ take_all size (bytes_of text) (omega (arith, length_hex)))

-- Decoders and encoders undo each other.
use mathlib.Core.Path.{◌≡◌, sym, ap, ap₂, ◌∙◌}
use mathlib.Core.List.{List, [], ◌∷◌, ◌++◌}
use Prim.Native.Nat.{ℕ, ◌+◌, ◌*◌, ◌/◌, ◌%◌, ◌<◌, ◌≤◌}
use native.Mathlib.Decide.{dec_lt}
use native.Mathlib.Omega.{arith}
use lib.ListN.{length, get_or}
use Rattle.lists.proofs.Tables.{table_is}
use Rattle.algebra.specs.Numbers.{Below}
use Rattle.algebra.specs.Numbers as N
use Rattle.algebra.proofs.Numbers.{below_at}
use Rattle.ring.specs.Ring.{q, n, Element}
use Rattle.ring.specs.Centred.{Ternary}
use Rattle.ring.proofs.Ternaries.{ternary_entry}
use Rattle.encoding.specs.Digits.{digit_at}
use Rattle.encoding.specs.Words.{word_at, words, words_to, bytes_of, element_of, element_bytes}
use Rattle.encoding.specs.Codes.{code_at, coefficient_of, code_of, first_invalid, unpacked, packed_at, packed, first_invalid_code, ternary_of, ternary_bytes}
use Rattle.encoding.proofs.Digits.{digit-first, digit-in}
use Rattle.encoding.proofs.Words.{words_entry, words_to_entry, words_to-append, length-bytes_of, bytes_of_entry}
use Rattle.encoding.proofs.Codes.{Trit, code-coefficient, coefficient-code, none-invalid, unpacked_entry, unpacked-append, packed-code, length-ternary_bytes}

-- numbers below q are below any bound of q
below-most : (q m : ℕ) → q ≤ m → (a : List ℕ) → Below q a → Below m a
below-most q m h [] b = tt
below-most q m h (x ∷ a) b = (omega (arith, b.0), below-most q m h a b.1)

-- ---- n words

module _ (n : ℕ) where
  word_bytes : (a : List ℕ) (k : ℕ) → k < n → get_or a k 0 < 65536 → word_at (bytes_of n a) k ≡ get_or a k 0
  word_bytes a k h l =
      ap₂ (λ (x y : ℕ). x + 256 * y)
      (bytes_of_entry n a (2 * k) (omega arith) ∙ digit-first 256 2 a k (omega arith))
      (bytes_of_entry n a (2 * k + 1) (omega arith) ∙ digit-in 256 2 a k 1 (omega arith))
      ∙ omega arith

  -- words of 16 bits
  pub words_to-bytes : (a : List ℕ) → length a ≡ n → Below 65536 a → words_to n (bytes_of n a) ≡ a
  unfolding words_to
  words_to-bytes a size below = sym (table_is n _ a 0 size (λ k h. sym (entry k h)))
    where
      entry : (k : ℕ) → k < n → get_or (words (bytes_of n a)) k 0 ≡ get_or a k 0
      entry k h =
          words_entry (bytes_of n a) k (omega (arith, length-bytes_of n a))
          ∙ word_bytes a k h (below_at 65536 (omega arith) a below k)

  -- 2 n bytes
  pub bytes-words_to : (bytes : List ℕ) → length bytes ≡ 2 * n → Below 256 bytes → bytes_of n (words_to n bytes) ≡ bytes
  unfolding bytes_of
  bytes-words_to bytes size below = sym (table_is (2 * n) _ bytes 0 size (λ i h. sym (entry i h (dec_lt (i % 2) 1))))
    where
      word : (i : ℕ) → i < 2 * n → get_or (words_to n bytes) (i / 2) 0 ≡ word_at bytes (i / 2)
      word i h = words_to_entry n bytes (i / 2) (omega arith) ∙ words_entry bytes (i / 2) (omega arith)

      byte : (i : ℕ) → get_or bytes i 0 < 256
      byte i = below_at 256 (omega arith) bytes below i

      entry : (i : ℕ) → i < 2 * n → Dec (i % 2 < 1) → digit_at 256 2 (words_to n bytes) i ≡ get_or bytes i 0
      entry i h (yes l) =
          let even : i % 2 ≡ 0 = omega arith in
          let at : 2 * (i / 2) ≡ i = omega arith in
          rw (even, word i h) (omega (arith, byte (2 * (i / 2)))) ∙ ap (λ (m : ℕ). get_or bytes m 0) at
      entry i h (no l) =
          let odd : i % 2 ≡ 1 = omega arith in
          let at : 2 * (i / 2) + 1 ≡ i = omega arith in
          rw (odd, word i h) (omega (arith, byte (2 * (i / 2)), byte (2 * (i / 2) + 1))) ∙ ap (λ (m : ℕ). get_or bytes m 0) at

  -- what a record reader finds where an element modulo q was written
  pub words-written : (q : ℕ) → q ≤ 65536 → (a rest : List ℕ) → N.Element q n a → words_to n (bytes_of n a ++ rest) ≡ a
  words-written q fits a rest e =
      words_to-append n (bytes_of n a) rest (length-bytes_of n a)
      ∙ words_to-bytes a e.size (below-most q 65536 fits a e.below)

-- ---- 4 m coefficients modulo q

-- a number below 256 by its digits to base 4
digits : (b c0 c1 c2 c3 : ℕ) → b < 256 → c0 ≡ b % 4 → c1 ≡ b / 4 % 4 → c2 ≡ b / 16 % 4 → c3 ≡ b / 64 % 4
    → c0 + 4 * c1 + 16 * c2 + 64 * c3 ≡ b
digits b c0 c1 c2 c3 h e0 e1 e2 e3 =
    let s1 : b ≡ 4 * (b / 4) + c0 = omega arith in
    let s2 : b / 4 ≡ 4 * (b / 16) + c1 = omega arith in
    let s3 : b / 16 ≡ 4 * (b / 64) + c2 = omega arith in
    let s4 : b / 64 ≡ c3 = omega arith in
    sum b (b / 4) (b / 16) (b / 64) c0 c1 c2 c3 s1 s2 s3 s4
  where
    sum : (b b1 b2 b3 c0 c1 c2 c3 : ℕ) → b ≡ 4 * b1 + c0 → b1 ≡ 4 * b2 + c1 → b2 ≡ 4 * b3 + c2 → b3 ≡ c3 → c0 + 4 * c1 + 16 * c2 + 64 * c3 ≡ b
    sum b b1 b2 b3 c0 c1 c2 c3 s1 s2 s3 s4 = omega arith

module _ (q m : ℕ) (big : 2 < q) where
  -- ternary coefficients
  pub unpacked-packed : (t : List ℕ) → length t ≡ 4 * m → ((k : ℕ) → k < 4 * m → Trit q (get_or t k 0)) → unpacked q m (packed q m t) ≡ t
  unfolding unpacked
  unpacked-packed t size trit = sym (table_is (4 * m) _ t 0 size (λ k h. sym (entry k h)))
    where
      entry : (k : ℕ) → k < 4 * m → coefficient_of q (code_at (packed q m t) k) ≡ get_or t k 0
      entry k h = ap (λ (code : ℕ). coefficient_of q code) (packed-code q m t k h) ∙ coefficient-code q big (get_or t k 0) (trit k h)

  -- m bytes without a code 3
  pub packed-unpacked : (bytes : List ℕ) → length bytes ≡ m → Below 256 bytes → first_invalid m bytes ≡ 4 * m → packed q m (unpacked q m bytes) ≡ bytes
  unfolding packed
  packed-unpacked bytes size below valid = sym (table_is m _ bytes 0 size (λ i h. sym (entry i h)))
    where
      code : (k : ℕ) → k < 4 * m → code_of q (get_or (unpacked q m bytes) k 0) ≡ code_at bytes k
      code k h = ap (λ (c : ℕ). code_of q c) (unpacked_entry q m bytes k h) ∙ code-coefficient q big (code_at bytes k) (none-invalid m bytes valid k h)

      entry : (i : ℕ) → i < m → packed_at q (unpacked q m bytes) i ≡ get_or bytes i 0
      entry i h =
          digits (get_or bytes i 0) _ _ _ _ (below_at 256 (omega arith) bytes below i)
          (code (4 * i) (omega arith) ∙ digit-first 4 4 bytes i (omega arith))
          (code (4 * i + 1) (omega arith) ∙ digit-in 4 4 bytes i 1 (omega arith))
          (code (4 * i + 2) (omega arith) ∙ digit-in 4 4 bytes i 2 (omega arith))
          (code (4 * i + 3) (omega arith) ∙ digit-in 4 4 bytes i 3 (omega arith))

-- ---- ring elements

pub element_of-bytes : (a : List ℕ) → length a ≡ n → Below 65536 a → element_of (element_bytes a) ≡ a
element_of-bytes a size below = words_to-bytes n a size below

pub bytes-element_of : (bytes : List ℕ) → length bytes ≡ 2048 → Below 256 bytes → element_bytes (element_of bytes) ≡ bytes
bytes-element_of bytes size below = bytes-words_to n bytes size below

pub element_of-written : (a rest : List ℕ) → Element a → element_of (element_bytes a ++ rest) ≡ a
element_of-written a rest e = words-written n q (omega arith) a rest e

-- ---- the ring's ternary polynomials

pub ternary_of-bytes : (t : List ℕ) → Ternary t → ternary_of (ternary_bytes t) ≡ t
ternary_of-bytes t e = unpacked-packed q 256 (omega arith) t e.0.size (ternary_entry t e)

pub bytes-ternary_of : (bytes : List ℕ) → length bytes ≡ 256 → Below 256 bytes → first_invalid_code bytes ≡ n → ternary_bytes (ternary_of bytes) ≡ bytes
bytes-ternary_of bytes size below valid = packed-unpacked q 256 (omega arith) bytes size below valid

pub ternary_of-written : (t rest : List ℕ) → Ternary t → ternary_of (ternary_bytes t ++ rest) ≡ t
ternary_of-written t rest e = unpacked-append q 256 (ternary_bytes t) rest (length-ternary_bytes t) ∙ ternary_of-bytes t e

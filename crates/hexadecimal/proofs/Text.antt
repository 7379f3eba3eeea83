-- The text of bytes and the bytes of a text, entry by entry, and that decoding undoes encoding.
use mathlib.Core.Path.{◌≡◌, refl, ap₂}
use mathlib.Core.List.{List, [], ◌∷◌, ◌++◌}
use Prim.Native.Nat.{ℕ, zero, suc, ◌+◌, ◌*◌, ◌/◌, ◌%◌, ◌<◌, ◌≤◌, min}
use native.Mathlib.Decide.{dec_le}
use native.Mathlib.Omega.{arith}
use lib.ListN.{length, get_or, take, drop, drop_of_length-le}
use lib.Seq.{take_all, take-length, drop-length, length-take-le}
use borrow.Author.Tests.{ltb-true}
use Rattle.lists.specs.First.{first_failing}
use Rattle.lists.proofs.Scan.{first-within, before-first}
use Rattle.hexadecimal.specs.Hex.{digit_of, value_of, is_digit, text_of, bytes_of, decoded, written}
use Rattle.hexadecimal.proofs.Digits.{value_digit, digit_is_digit}

pub length_text : (bs : List ℕ) → length (text_of bs) ≡ 2 * length bs
unfolding text_of
length_text [] = refl
length_text (b ∷ bs) = omega (arith, length_text bs)

pub text_high : (bs : List ℕ) (k : ℕ) → k < length bs → get_or (text_of bs) (2 * k) 0 ≡ digit_of (get_or bs k 0 / 16)
unfolding text_of
text_high [] k h = absurd (omega arith)
text_high (b ∷ bs) zero h = refl
text_high (b ∷ bs) (suc k) h =
    let e : 2 * suc k ≡ suc (suc (2 * k)) = omega arith in
    rw e (text_high bs k (omega arith))

pub text_low : (bs : List ℕ) (k : ℕ) → k < length bs → get_or (text_of bs) (2 * k + 1) 0 ≡ digit_of (get_or bs k 0 % 16)
unfolding text_of
text_low [] k h = absurd (omega arith)
text_low (b ∷ bs) zero h = refl
text_low (b ∷ bs) (suc k) h =
    let e : 2 * suc k + 1 ≡ suc (suc (2 * k + 1)) = omega arith in
    rw e (text_low bs k (omega arith))

pub length-bytes : (text : List ℕ) → length (bytes_of text) ≡ length text / 2
unfolding bytes_of
length-bytes [] = refl
length-bytes (h ∷ []) = refl
length-bytes (h ∷ l ∷ text) = omega (arith, length-bytes text)

pub byte_at : (text : List ℕ) (k : ℕ) → 2 * k + 1 < length text
    → get_or (bytes_of text) k 0 ≡ 16 * value_of (get_or text (2 * k) 0) + value_of (get_or text (2 * k + 1) 0)
unfolding bytes_of
byte_at [] k h = absurd (omega arith)
byte_at (a ∷ []) k h = absurd (omega arith)
byte_at (a ∷ b ∷ text) zero h = refl
byte_at (a ∷ b ∷ text) (suc k) h =
    let e : 2 * suc k ≡ suc (suc (2 * k)) = omega arith in
    let e' : 2 * suc k + 1 ≡ suc (suc (2 * k + 1)) = omega arith in
    rw (e', e) (byte_at text k (omega arith))

-- the digits that a text starts with have values below 16
pub value-lt : (text : List ℕ) (k : ℕ) → k < first_failing is_digit text → value_of (get_or text k 0) < 16
value-lt text k h = ltb-true (value_of (get_or text k 0)) 16 (before-first is_digit text k h)

pub length-decoded : (text : List ℕ) → length (decoded text) ≡ first_failing is_digit text / 2
length-decoded text =
    length-take-le (first_failing is_digit text / 2) (bytes_of text) (omega (arith, length-bytes text, first-within is_digit text))

-- a buffer whose first entries were lent and filled, as many as there is room for
pub written-front : (s out : List ℕ) {part : List ℕ} {n : ℕ} → n ≡ min (length s) (length out) → part ≡ take n s
    → part ++ drop n out ≡ written s out
written-front s out {part} {n} e p = room (dec_le (length s) (length out))
  where
    room : Dec (length s ≤ length out) → part ++ drop n out ≡ written s out
    room (yes h) =
        let m : n ≡ length s = omega arith in
        rw (p, m, take_all (length s) s (omega arith), take_all (length out) s h)
    room (no h) =
        let m : n ≡ length out = omega arith in
        let l : length out ≤ length s = omega arith in
        rw (p, m, drop-length out, drop_of_length-le out l)

-- ---- decoding what was encoded

-- every entry is a byte
pub Bytes : List ℕ → Type 0
Bytes bs = (k : ℕ) → get_or bs k 0 < 256

bytes_text : (bs : List ℕ) → Bytes bs → bytes_of (text_of bs) ≡ bs
unfolding text_of bytes_of Bytes
bytes_text [] h = refl
bytes_text (b ∷ bs) h =
    let l : b < 256 = h 0 in
    let v : 16 * value_of (digit_of (b / 16)) + value_of (digit_of (b % 16)) ≡ b =
    rw (value_digit (b / 16) (omega arith), value_digit (b % 16) (omega arith)) (omega arith) in
    ap₂ (λ (x : ℕ) (xs : List ℕ). x ∷ xs) v (bytes_text bs (λ k. h (suc k)))

digits-text : (bs : List ℕ) → Bytes bs → first_failing is_digit (text_of bs) ≡ 2 * length bs
unfolding text_of first_failing Bytes
digits-text [] h = refl
digits-text (b ∷ bs) h =
    let l : b < 256 = h 0 in
    rw (digit_is_digit (b / 16) (omega arith), digit_is_digit (b % 16) (omega arith)) (omega (arith, digits-text bs (λ k. h (suc k))))

pub decoded_text : (bs : List ℕ) → Bytes bs → decoded (text_of bs) ≡ bs
decoded_text bs h =
    let e : first_failing is_digit (text_of bs) / 2 ≡ length bs = omega (arith, digits-text bs h) in
    rw (e, bytes_text bs h) (take-length bs)

-- Numbers and their bytes.
use mathlib.Core.Path.{◌≡◌, refl, sym, ap, ap₂, ◌∙◌}
use mathlib.Core.List.{List, [], ◌∷◌, ◌++◌, zip_with}
use Prim.Native.Nat.{ℕ, zero, suc, ◌+◌, ◌*◌, ◌/◌, ◌%◌, ◌^◌, ◌<◌, ◌≤◌}
use native.Mathlib.Nat.{pow-suc, zero-add, add-zero, mul-one, suc_inj, div-one}
use native.Mathlib.Omega.{arith}
use lib.Arith.{lt-one, digits_lt}
use lib.Bits.{bit_xor, xor_block}
use lib.ListN.{length, get_or, take, drop, length-drop, take-append-drop}
use lib.Pow.{shr-shr}
use lib.Seq.{ext_get_or, take_all, length-take-le}
use Rattle.std.specs.Int.{w64, to_le_bytes}
use Rattle.octets.specs.Words.{word64_at}
use borrow.Rule.Slice.PartMut.{put_mid}
use Rattle.lists.specs.Table.{table, table_from, zeros}
use Rattle.lists.proofs.Maps.{cons}
use Rattle.gf128.specs.Bytes.{number, bytes}
use Rattle.lists.proofs.ByteLists.{Small, part-get_or}

-- the eight bytes from a place on
abbrev pub eight_at : List ℕ → ℕ → List ℕ
eight_at b at =
    get_or b at 0
    ∷ get_or b (at + 1) 0
    ∷ get_or b (at + 2) 0
    ∷ get_or b (at + 3) 0
    ∷ get_or b (at + 4) 0
    ∷ get_or b (at + 5) 0
    ∷ get_or b (at + 6) 0
    ∷ get_or b (at + 7) 0
    ∷ []

-- as a word
pub number_eight : (b : List ℕ) (at : ℕ) → word64_at b at ≡ number (eight_at b at)
number_eight b at = omega arith

part_eight : (i : ℕ) (a : List ℕ) → i + 8 ≤ length a → take 8 (drop i a) ≡ eight_at a i
unfolding table table_from
part_eight i a h = part-get_or i 8 a h ∙ rw (add-zero i)

-- ---- the number of bytes

next_digit : (p x b n : ℕ) → b + 256 * (x * p + n) ≡ x * (p * 256) + (b + 256 * n)
next_digit p x b n = omega arith

pub number_append : (a b : List ℕ) → number (a ++ b) ≡ number b * 256 ^ length a + number a
number_append [] b = rw (add-zero (number b * 1), mul-one (number b))
number_append (x ∷ a) b = rw (number_append a b, pow-suc 256 (length a)) (next_digit (256 ^ length a) (number b) x (number a))

pub number_lt : (a : List ℕ) → Small a → number a < 256 ^ length a
number_lt [] h = omega arith
number_lt (x ∷ a) h =
    let e : x + 256 * number a ≡ number a * 256 + x = omega arith in
    rw (e, pow-suc 256 (length a)) (digits_lt (number_lt a (λ k. h (suc k))) (h 0))

-- the number of two words of eight bytes
pub number-halves : (a : List ℕ) → length a ≡ 16 → number (eight_at a 8) * 2 ^ 64 + number (eight_at a 0) ≡ number a
number-halves a h =
    let high : eight_at a 8 ≡ drop 8 a = sym (part_eight 8 a (omega arith)) ∙ take_all 8 (drop 8 a) (omega (arith, length-drop 8 a)) in
    ap₂ (λ (x y : List ℕ). number x * 2 ^ 64 + number y) high (sym (part_eight 0 a (omega arith)))
    ∙ ap (λ (n : ℕ). number (drop 8 a) * 256 ^ n + number (take 8 a)) (sym (length-take-le 8 a (omega arith)))
    ∙ sym (number_append (take 8 a) (drop 8 a))
    ∙ ap number (take-append-drop 8 a)

-- ---- the bytes of a number

pub length-bytes : (n v : ℕ) → length (bytes n v) ≡ n
unfolding bytes
length-bytes zero v = refl
length-bytes (suc n) v = ap suc (length-bytes n (v / 256))

pub small_bytes : (n v : ℕ) → Small (bytes n v)
unfolding bytes
small_bytes zero v k = omega arith
small_bytes (suc n) v zero = omega arith
small_bytes (suc n) v (suc k) = small_bytes n (v / 256) k

pub get_or-bytes : (n v k : ℕ) → k < n → get_or (bytes n v) k 0 ≡ v / 2 ^ (8 * k) % 256
unfolding bytes
get_or-bytes zero v k h = absurd (omega arith)
get_or-bytes (suc n) v zero h = rw (div-one v)
get_or-bytes (suc n) v (suc k) h =
    let e : 8 + 8 * k ≡ 8 * suc k = omega arith in
    get_or-bytes n (v / 256) k (omega arith) ∙ ap (λ (x : ℕ). x % 256) (shr-shr v 8 (8 * k) ∙ ap (λ (j : ℕ). v / 2 ^ j) e)

-- the library's bytes of a word
pub bytes_eight : (v : ℕ) → to_le_bytes w64 v ≡ bytes 8 v
bytes_eight v = ext_get_or 0 (to_le_bytes w64 v) (bytes 8 v) (sym (length-bytes 8 v)) (λ k h. at k h ∙ sym (get_or-bytes 8 v k h))
  where
    at : (k : ℕ) → k < 8 → get_or (to_le_bytes w64 v) k 0 ≡ v / 2 ^ (8 * k) % 256
    at zero h = rw (div-one v)
    at (suc zero) h = refl
    at (suc (suc zero)) h = refl
    at (suc (suc (suc zero))) h = refl
    at (suc (suc (suc (suc zero)))) h = refl
    at (suc (suc (suc (suc (suc zero))))) h = refl
    at (suc (suc (suc (suc (suc (suc zero)))))) h = refl
    at (suc (suc (suc (suc (suc (suc (suc zero))))))) h = refl
    at (suc (suc (suc (suc (suc (suc (suc (suc k)))))))) h = absurd (omega arith)

low_digit : (w p v : ℕ) → (w * (p * 256) + v) % 256 ≡ v % 256
low_digit w p v = omega arith

other_digits : (w p v : ℕ) → (w * (p * 256) + v) / 256 ≡ w * p + v / 256
other_digits w p v = omega arith

pub bytes-append : (n m w v : ℕ) → v < 256 ^ n → bytes (n + m) (w * 256 ^ n + v) ≡ bytes n v ++ bytes m w
unfolding bytes
bytes-append zero m w v h = rw (zero-add m, lt-one h, add-zero (w * 1), mul-one w)
bytes-append (suc n) m w v h =
    let e : suc n + m ≡ suc (n + m) = omega arith in
    let k : v < 256 ^ n * 256 = rw (pow-suc 256 n) at h in
    let g : v / 256 < 256 ^ n = omega arith in
    rw (e, pow-suc 256 n, low_digit w (256 ^ n) v, other_digits w (256 ^ n) v, bytes-append n m w (v / 256) g)

-- sixteen bytes of which both halves were written
pub put_halves : (v w : ℕ) (x y : List ℕ) → x ≡ bytes 8 v → y ≡ bytes 8 w → put_mid 8 8 (x ++ zeros 8) y ≡ bytes 8 v ++ bytes 8 w
unfolding bytes
put_halves v w x y e f = rw (e, f)

-- ---- there and back

pub number-bytes : (n v : ℕ) → v < 256 ^ n → number (bytes n v) ≡ v
unfolding bytes
number-bytes zero v h = sym (lt-one h)
number-bytes (suc n) v h =
    let k : v < 256 ^ n * 256 = rw (pow-suc 256 n) at h in
    let g : v / 256 < 256 ^ n = omega arith in
    omega (arith, number-bytes n (v / 256) g)

pub bytes-number : (a : List ℕ) → Small a → bytes (length a) (number a) ≡ a
unfolding bytes
bytes-number [] h = refl
bytes-number (x ∷ a) h =
    let s : x < 256 = h 0 in
    let low : (x + 256 * number a) % 256 ≡ x = omega arith in
    let rest : (x + 256 * number a) / 256 ≡ number a = omega arith in
    rw (low, rest) (cons refl (bytes-number a (λ k. h (suc k))))

-- ---- sums

pub number_xor : (a b : List ℕ) → length a ≡ length b → Small a → Small b → number (zip_with bit_xor a b) ≡ bit_xor (number a) (number b)
unfolding zip_with
number_xor [] [] e ha hb = refl
number_xor [] (y ∷ b) e ha hb = absurd (omega arith)
number_xor (x ∷ a) [] e ha hb = absurd (omega arith)
number_xor (x ∷ a) (y ∷ b) e ha hb =
    let swap : (u n : ℕ) → u + 256 * n ≡ n * 2 ^ 8 + u = λ u n. omega arith in
    rw (number_xor a b (suc_inj e) (λ k. ha (suc k)) (λ k. hb (suc k)), swap x (number a), swap y (number b), swap (bit_xor x y) (bit_xor (number a) (number b)))
    (sym (xor_block 8 (number a) (number b) x y (ha 0) (hb 0)))

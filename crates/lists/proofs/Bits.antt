-- Bits of numbers: what the operations on words do to each bit.
use mathlib.Core.Path.{◌≡◌, refl, sym, ap, ap₂, ◌∙◌}
use Prim.Native.Nat.{ℕ, zero, suc, ◌+◌, ◌*◌, ◌-◌, ◌/◌, ◌%◌, ◌^◌, ◌<◌, ◌≤◌, min}
use native.Mathlib.Nat.{mod-lt, pow-suc, add-mul-div_right, mul-le-mul_right, mul-sub, mul_comm, add-zero, mod-eq_of_lt, mod-eq-sub-mod, mul-mod_left}
use native.Mathlib.Decide.{dec_lt}
use lib.Pow.{pow_pos, pow-add, shr-shr, split, high, shr_lt, shl-shr, ones_split, mod-pow-add}
use native.Mathlib.Omega.{arith}
use lib.Bits.{bit_xor, bit_and, bit_or, differ, xor_shr, and_shr, xor_step, and_step, or_shifted}
use Rattle.lists.specs.Bits.{bit}

bit-lt : (z v : ℕ) → bit z v < 2
bit-lt z v = omega arith

differ-sum : (x y : ℕ) → x < 2 → y < 2 → differ x y ≡ (x + y) % 2
differ-sum zero zero h g = refl
differ-sum zero (suc zero) h g = refl
differ-sum zero (suc (suc y)) h g = absurd (omega arith)
differ-sum (suc zero) zero h g = refl
differ-sum (suc zero) (suc zero) h g = refl
differ-sum (suc zero) (suc (suc y)) h g = absurd (omega arith)
differ-sum (suc (suc x)) y h g = absurd (omega arith)

min-product : (x y : ℕ) → x < 2 → y < 2 → min x y ≡ x * y
min-product zero zero h g = refl
min-product zero (suc zero) h g = refl
min-product zero (suc (suc y)) h g = absurd (omega arith)
min-product (suc zero) zero h g = refl
min-product (suc zero) (suc zero) h g = refl
min-product (suc zero) (suc (suc y)) h g = absurd (omega arith)
min-product (suc (suc x)) y h g = absurd (omega arith)

-- ---- xor adds bits modulo 2, and multiplies them

pub bit-xor : (z a b : ℕ) → bit z (bit_xor a b) ≡ (bit z a + bit z b) % 2
bit-xor z a b =
    let x : ℕ = a / 2 ^ z in
    let y : ℕ = b / 2 ^ z in
    let d : differ (x % 2) (y % 2) ≡ (x % 2 + y % 2) % 2 = differ-sum (x % 2) (y % 2) (omega arith) (omega arith) in
    let s : bit_xor x y % 2 ≡ (x % 2 + y % 2) % 2 = omega (arith, xor_step x y, d) in
    rw (xor_shr a b z) s

pub bit-and : (z a b : ℕ) → bit z (bit_and a b) ≡ bit z a * bit z b
bit-and z a b =
    let x : ℕ = a / 2 ^ z in
    let y : ℕ = b / 2 ^ z in
    let m : min (x % 2) (y % 2) ≡ x % 2 * (y % 2) = min-product (x % 2) (y % 2) (omega arith) (omega arith) in
    let s : bit_and x y % 2 ≡ min (x % 2) (y % 2) = omega (arith, and_step x y) in
    rw (and_shr a b z) (s ∙ m)

-- ---- parts of a number

-- the bits of a number above its n lowest
pub bit-above : (n z a b : ℕ) → b < 2 ^ n → bit (n + z) (a * 2 ^ n + b) ≡ bit z a
bit-above n z a b h = ap (λ (x : ℕ). x % 2) (sym (shr-shr (a * 2 ^ n + b) n z) ∙ ap (λ (x : ℕ). x / 2 ^ z) (high a n h))

-- its n lowest bits
pub bit_below : (n z a b : ℕ) → z < n → bit z (a * 2 ^ n + b) ≡ bit z b
bit_below n z a b h =
    let k : ℕ = n - suc z in
    let p : 2 ^ n ≡ 2 ^ k * 2 * 2 ^ z =
    ap (λ (m : ℕ). 2 ^ m) (omega arith) ∙ pow-add 2 (suc k) z ∙ ap (λ (x : ℕ). x * 2 ^ z) (pow-suc 2 k) in
    let s : a * 2 ^ n + b ≡ b + a * 2 ^ k * 2 * 2 ^ z = rw p (omega arith) in
    let d : (a * 2 ^ n + b) / 2 ^ z ≡ b / 2 ^ z + a * 2 ^ k * 2 = ap (λ (x : ℕ). x / 2 ^ z) s ∙ add-mul-div_right b (a * 2 ^ k * 2) (pow_pos z) in
    rw d (omega arith)

pub bit-mod : (n z v : ℕ) → z < n → bit z (v % 2 ^ n) ≡ bit z v
bit-mod n z v h = sym (bit_below n z (v / 2 ^ n) (v % 2 ^ n) h) ∙ ap (bit z) (split v n)

pub bit_shr : (n z v : ℕ) → bit z (v / 2 ^ n) ≡ bit (n + z) v
bit_shr n z v = ap (λ (x : ℕ). x % 2) (shr-shr v n z)

-- ---- complement and rotation of words of w bits

pub bit_not : (w z a : ℕ) → a < 2 ^ w → z < w → bit z (2 ^ w - 1 - a) ≡ 1 - bit z a
bit_not w z a h g =
    let j : ℕ = w - z in
    let i : ℕ = w - suc z in
    let x : ℕ = a / 2 ^ z in
    let r : ℕ = a % 2 ^ z in
    let power : 2 ^ j ≡ 2 ^ i * 2 = ap (λ (m : ℕ). 2 ^ m) (omega arith) ∙ pow-suc 2 i in
    let width : j + z ≡ w = omega arith in
    let small : x < 2 ^ j = shr_lt j z (rw width h) in
    let rest : r < 2 ^ z = mod-lt a (pow_pos z) in
    let ones : 2 ^ w - 1 ≡ (2 ^ j - 1) * 2 ^ z + (2 ^ z - 1) = ap (λ (m : ℕ). 2 ^ m - 1) (sym width) ∙ ones_split j z in
    let least : x * 2 ^ z ≤ (2 ^ j - 1) * 2 ^ z = mul-le-mul_right (2 ^ z) (omega arith) in
    let less : (2 ^ j - 1 - x) * 2 ^ z ≡ (2 ^ j - 1) * 2 ^ z - x * 2 ^ z =
    mul_comm (2 ^ j - 1 - x) (2 ^ z) ∙ mul-sub (2 ^ z) (2 ^ j - 1) x
    ∙ ap₂ (λ (p q : ℕ). p - q) (mul_comm (2 ^ z) (2 ^ j - 1)) (mul_comm (2 ^ z) x) in
    let parts : 2 ^ w - 1 - a ≡ (2 ^ j - 1 - x) * 2 ^ z + (2 ^ z - 1 - r) =
    omega (arith, ones, split a z, less) in
    let top : (2 ^ w - 1 - a) / 2 ^ z ≡ 2 ^ j - 1 - x = ap (λ (m : ℕ). m / 2 ^ z) parts ∙ high (2 ^ j - 1 - x) z (omega arith) in
    rw top (omega arith)

-- a rotation of a word of n + m bits by n places, as a sum of its two parts
rotated : (n m v : ℕ) → v < 2 ^ (n + m) → bit_or ((v * 2 ^ n) % 2 ^ (m + n)) (v / 2 ^ m) ≡ v % 2 ^ m * 2 ^ n + v / 2 ^ m
rotated n m v h =
    let up : (v * 2 ^ n) % 2 ^ (m + n) ≡ v % 2 ^ m * 2 ^ n =
    mod-pow-add (v * 2 ^ n) m n
    ∙ ap₂ (λ (x y : ℕ). x % 2 ^ m * 2 ^ n + y) (shl-shr v n) (mul-mod_left v (2 ^ n)) ∙ add-zero (v % 2 ^ m * 2 ^ n) in
    ap (λ (x : ℕ). bit_or x (v / 2 ^ m)) up ∙ or_shifted (v % 2 ^ m) n (v / 2 ^ m) (shr_lt n m h)

-- bit z goes to bit (z + n) mod w
pub bit-rotate : (w n z v : ℕ) → v < 2 ^ w → n ≤ w → z < w
    → bit ((z + n) % w) (bit_or ((v * 2 ^ n) % 2 ^ w) (v / 2 ^ (w - n))) ≡ bit z v
bit-rotate w n z v h l g = place (w - n) (omega arith) (dec_lt z (w - n))
  where
    sum : (m : ℕ) → m + n ≡ w → bit_or ((v * 2 ^ n) % 2 ^ w) (v / 2 ^ m) ≡ v % 2 ^ m * 2 ^ n + v / 2 ^ m
    sum m e = rw (← e) (rotated n m v (let c : n + m ≡ w = omega arith in rw c h))

    place : (m : ℕ) → m + n ≡ w → Dec (z < m) → bit ((z + n) % w) (bit_or ((v * 2 ^ n) % 2 ^ w) (v / 2 ^ m)) ≡ bit z v
    place m e (yes b) =
        let at : (z + n) % w ≡ n + z = mod-eq_of_lt (omega arith) ∙ omega arith in
        rw (at, sum m e) (bit-above n z (v % 2 ^ m) (v / 2 ^ m) (shr_lt n m (let c : n + m ≡ w = omega arith in rw c h)) ∙ bit-mod m z v b)
    place m e (no b) =
        let at : (z + n) % w ≡ z - m = mod-eq-sub-mod (omega arith) ∙ mod-eq_of_lt (omega arith) ∙ omega arith in
        let back : m + (z - m) ≡ z = omega arith in
        rw (at, sum m e) (bit_below n (z - m) (v % 2 ^ m) (v / 2 ^ m) (omega arith) ∙ bit_shr m (z - m) v ∙ ap (λ (k : ℕ). bit k v) back)

-- Horner's rule, reduced at each step, gives the product of the definition.
use mathlib.Core.Path.{◌≡◌, refl, sym, ap, ap₂, ◌∙◌}
use Prim.Native.Nat.{ℕ, zero, suc, ◌+◌, ◌*◌, ◌/◌, ◌%◌, ◌^◌, ◌<◌, ◌≤◌, ◌-◌}
use native.Mathlib.Nat.{pow-suc, div-eq_of_lt, zero-div, lt_of_le_of_lt, mod-lt}
use native.Mathlib.Omega.{arith}
use lib.Bits.{bit_xor, xor_shr, xor_zero_r, xor_lt}
use lib.Pow.{shr-shr, shr_lt, split, pow_pos}
use Rattle.lists.specs.Bits.{bit}
use Rattle.gf128.specs.Field.{modulus, carryless_product, remainder, times}
use Rattle.gf128.specs.Words.{times_x}
use Rattle.lists.proofs.Xor.{xor_double, xor-right, bit_le}
use Rattle.gf128.proofs.TwoWords.{two-words-lt, times_x-words, carry-fits, low-word-lt}

-- a × b for b of degree below n: a × (b0 + x × b') = x × (a × b') + b0 × a
unfoldable pub horner : ℕ → ℕ → ℕ → ℕ
horner zero a b = 0
horner (suc n) a b = bit_xor (times_x (horner n a (b / 2))) (b % 2 * a)

-- a polynomial of degree below 128 has no term that division looks at
no_high-term : (n p s : ℕ) → s < 2 ^ 128 → bit_xor p s / 2 ^ (128 + n) ≡ p / 2 ^ (128 + n)
no_high-term n p s h =
    let z : s / 2 ^ (128 + n) ≡ 0 = sym (shr-shr s 128 n) ∙ ap (λ (k : ℕ). k / 2 ^ n) (div-eq_of_lt h) ∙ zero-div (2 ^ n) in
    xor_shr p s (128 + n) ∙ ap (bit_xor (p / 2 ^ (128 + n))) z ∙ xor_zero_r (p / 2 ^ (128 + n))

remainder-add : (n p s : ℕ) → s < 2 ^ 128 → remainder n (bit_xor p s) ≡ bit_xor (remainder n p) s
unfolding remainder
remainder-add zero p s h = refl
remainder-add (suc n) p s h =
    let k = bit (128 + n) p * (modulus * 2 ^ n) in
    ap (λ (x : ℕ). remainder n (bit_xor (bit_xor p s) (x % 2 * (modulus * 2 ^ n)))) (no_high-term n p s h)
    ∙ ap (remainder n) (xor-right p s k)
    ∙ remainder-add n (bit_xor p k) s h

double-term : (m t w : ℕ) → t * (m * (w * 2)) ≡ 2 * (t * (m * w))
double-term m t w = omega arith

-- what is left of x × p
remainder_double : (n p : ℕ) → remainder (suc n) (2 * p) ≡ times_x (remainder n p)
unfolding remainder times_x
remainder_double zero p =
    let h : 2 * p / 2 ≡ p = omega arith in
    ap (λ (x : ℕ). bit_xor (2 * p) (x % 2 * modulus)) (sym (shr-shr (2 * p) 1 127) ∙ ap (λ (x : ℕ). x / 2 ^ 127) h)
remainder_double (suc n) p =
    let h : 2 * p / 2 ≡ p = omega arith in
    let e : 128 + suc n ≡ 1 + (128 + n) = omega arith in
    let t = bit (128 + n) p in
    let b : 2 * p / 2 ^ (128 + suc n) ≡ p / 2 ^ (128 + n) =
    ap (λ (x : ℕ). 2 * p / 2 ^ x) e ∙ sym (shr-shr (2 * p) 1 (128 + n)) ∙ ap (λ (x : ℕ). x / 2 ^ (128 + n)) h in
    ap₂ (λ (x y : ℕ). remainder (suc n) (bit_xor (2 * p) (x % 2 * (modulus * y)))) b (pow-suc 2 n)
    ∙ ap (λ (x : ℕ). remainder (suc n) (bit_xor (2 * p) x)) (double-term modulus t (2 ^ n))
    ∙ ap (remainder (suc n)) (xor_double p (t * (modulus * 2 ^ n)))
    ∙ remainder_double n (bit_xor p (t * (modulus * 2 ^ n)))

-- a bit of b times a is of degree below 128 where a is
pub term-lt : (a b : ℕ) → a < 2 ^ 128 → b % 2 * a < 2 ^ 128
term-lt a b h = lt_of_le_of_lt (bit_le (b % 2) a (omega arith)) h

horner-remainder : (n a b : ℕ) → a < 2 ^ 128 → remainder n (carryless_product n a b) ≡ horner n a b
unfolding carryless_product horner remainder
horner-remainder zero a b h = refl
horner-remainder (suc n) a b h =
    let p = carryless_product n a (b / 2) in
    remainder-add (suc n) (2 * p) (b % 2 * a) (term-lt a b h)
    ∙ ap (λ (x : ℕ). bit_xor x (b % 2 * a)) (remainder_double n p ∙ ap times_x (horner-remainder n a (b / 2) h))

pub times-horner : (a b : ℕ) → a < 2 ^ 128 → times a b ≡ horner 128 a b
unfolding times
times-horner a b h = horner-remainder 128 a b h

-- one turn of a loop over the coefficients of b, the highest first
pub horner_step : (i a b : ℕ) → 0 < i → i ≤ 128
    → bit_xor (times_x (horner (128 - i) a (b / 2 ^ i))) (bit (i - 1) b * a) ≡ horner (128 - (i - 1)) a (b / 2 ^ (i - 1))
unfolding horner
horner_step i a b h l =
    let e : 128 - (i - 1) ≡ suc (128 - i) = omega arith in
    let k : i - 1 + 1 ≡ i = omega arith in
    let half : b / 2 ^ (i - 1) / 2 ≡ b / 2 ^ i = shr-shr b (i - 1) 1 ∙ ap (λ (n : ℕ). b / 2 ^ n) k in
    rw e (ap (λ (x : ℕ). bit_xor (times_x (horner (128 - i) a x)) (bit (i - 1) b * a)) (sym half))

-- ---- the result is of degree below 128

pub times_x-lt : (v : ℕ) → v < 2 ^ 128 → times_x v < 2 ^ 128
times_x-lt v h =
    let hi = v / 2 ^ 64 in
    let lo = v % 2 ^ 64 in
    let hh : v / 2 ^ 64 < 2 ^ 64 = shr_lt 64 64 h in
    let hl : v % 2 ^ 64 < 2 ^ 64 = mod-lt v (pow_pos 64) in
    rw (← split v 64, ← times_x-words hi lo hh hl) (two-words-lt _ _ (carry-fits hi lo hl) (low-word-lt hi lo hh))

pub horner-lt : (n a b : ℕ) → a < 2 ^ 128 → horner n a b < 2 ^ 128
unfolding horner
horner-lt zero a b h = pow_pos 128
horner-lt (suc n) a b h = xor_lt 128 _ _ (times_x-lt _ (horner-lt n a (b / 2) h)) (term-lt a b h)

pub times-lt : (a b : ℕ) → a < 2 ^ 128 → times a b < 2 ^ 128
times-lt a b h = rw (times-horner a b h) (horner-lt 128 a b h)

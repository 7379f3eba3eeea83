-- The field's laws on numbers: sums and products of numbers below 2^128 form a commutative ring with one.
use mathlib.Core.Path.{◌≡◌, refl, sym, ap, ap₂, ◌∙◌}
use Prim.Native.Nat.{ℕ, zero, suc, ◌+◌, ◌*◌, ◌/◌, ◌%◌, ◌^◌, ◌<◌}
use native.Mathlib.Nat.{zero-mul, mul-zero, one-mul, pow-suc}
use native.Mathlib.Omega.{arith}
use lib.Arith.{lt-one}
use lib.Bits.{bit_xor, xor_comm, xor_shr}
use lib.Pow.{pow_pos}
use Rattle.gf128.specs.Field.{modulus, carryless_product, remainder, times}
use Rattle.gf128.specs.Words.{times_x}
use Rattle.lists.proofs.Xor.{xor-half, xor_odd, xor_assoc, xor-swap, xor_double, same-halves, bit_through, bits-times}
use Rattle.gf128.proofs.Horner.{horner, times-horner, times_x-lt, horner-lt, times-lt}

bit-lt : (a : ℕ) → a % 2 < 2
bit-lt a = omega arith

-- ---- distributivity

times_x-zero : times_x 0 ≡ 0
unfolding times_x
times_x-zero = refl

times_x_xor : (u v : ℕ) → times_x (bit_xor u v) ≡ bit_xor (times_x u) (times_x v)
unfolding times_x
times_x_xor u v =
    let t = u / 2 ^ 127 in
    let s = v / 2 ^ 127 in
    ap₂ bit_xor (sym (xor_double u v))
    (ap (λ (x : ℕ). x % 2 * modulus) (xor_shr u v 127) ∙ ap (λ (x : ℕ). x * modulus) (xor_odd t s)
    ∙ bits-times (t % 2) (s % 2) modulus (bit-lt t) (bit-lt s))
    ∙ xor-swap (2 * u) (2 * v) (t % 2 * modulus) (s % 2 * modulus)

horner_xor : (n a b c : ℕ) → horner n a (bit_xor b c) ≡ bit_xor (horner n a b) (horner n a c)
unfolding horner
horner_xor zero a b c = refl
horner_xor (suc n) a b c =
    ap₂ bit_xor
    (ap times_x (ap (horner n a) (xor-half b c) ∙ horner_xor n a (b / 2) (c / 2)) ∙ times_x_xor (horner n a (b / 2)) (horner n a (c / 2)))
    (ap (λ (x : ℕ). x * a) (xor_odd b c) ∙ bits-times (b % 2) (c % 2) a (bit-lt b) (bit-lt c))
    ∙ xor-swap (times_x (horner n a (b / 2))) (times_x (horner n a (c / 2))) (b % 2 * a) (c % 2 * a)

pub times_xor : (a b c : ℕ) → a < 2 ^ 128 → times a (bit_xor b c) ≡ bit_xor (times a b) (times a c)
times_xor a b c h = rw (times-horner a (bit_xor b c) h, times-horner a b h, times-horner a c h) (horner_xor 128 a b c)

-- ---- the order of the factors

product-zero : (n b : ℕ) → carryless_product n 0 b ≡ 0
unfolding carryless_product
product-zero zero b = refl
product-zero (suc n) b = rw (product-zero n (b / 2), mul-zero (b % 2))

-- a0 × x × b' + b0 × a is the same with a and b exchanged: both have the half a0 × b' + b0 × a' and the lowest bit a0 × b0
cross-half : (s t a b : ℕ) → t < 2 → bit_xor (2 * (s * b)) (t * a) / 2 ≡ bit_xor (s * b) (t * (a / 2))
cross-half s t a b h =
    let half : (n : ℕ) → 2 * n / 2 ≡ n = λ n. omega arith in
    xor-half (2 * (s * b)) (t * a) ∙ ap₂ bit_xor (half (s * b)) (bit_through (λ n. n / 2) refl t a h)

cross_odd : (s t a b : ℕ) → t < 2 → bit_xor (2 * (s * b)) (t * a) % 2 ≡ t * (a % 2)
cross_odd s t a b h =
    let even : (n : ℕ) → 2 * n % 2 ≡ 0 = λ n. omega arith in
    let alone : (n : ℕ) → (0 + n % 2) % 2 ≡ n % 2 = λ n. omega arith in
    xor_odd (2 * (s * b)) (t * a)
    ∙ ap (λ (n : ℕ). (n + t * a % 2) % 2) (even (s * b))
    ∙ alone (t * a)
    ∙ bit_through (λ n. n % 2) refl t a h

cross : (a b : ℕ) → bit_xor (2 * (a % 2 * (b / 2))) (b % 2 * a) ≡ bit_xor (2 * (b % 2 * (a / 2))) (a % 2 * b)
cross a b =
    let s = a % 2 in
    let t = b % 2 in
    let swap : t * s ≡ s * t = omega arith in
    same-halves (bit_xor (2 * (s * (b / 2))) (t * a)) (bit_xor (2 * (t * (a / 2))) (s * b))
    (cross-half s t a (b / 2) (bit-lt b) ∙ xor_comm (s * (b / 2)) (t * (a / 2)) ∙ sym (cross-half t s b (a / 2) (bit-lt a)))
    (cross_odd s t a (b / 2) (bit-lt b) ∙ swap ∙ sym (cross_odd t s b (a / 2) (bit-lt a)))

half_lt : (n b : ℕ) → b < 2 ^ suc n → b / 2 < 2 ^ n
half_lt n b h =
    let k : b < 2 ^ n * 2 = rw (pow-suc 2 n) at h in
    omega arith

-- the product by the coefficients of the first factor
product-left : (n a b : ℕ) → b < 2 ^ n → carryless_product n a b ≡ bit_xor (2 * carryless_product n (a / 2) b) (a % 2 * b)
unfolding carryless_product
product-left zero a b h = rw (lt-one h, mul-zero (a % 2))
product-left (suc n) a b h =
    let p = carryless_product n (a / 2) (b / 2) in
    let s = a % 2 * (b / 2) in
    let t = b % 2 * (a / 2) in
    ap (λ (x : ℕ). bit_xor (2 * x) (b % 2 * a)) (product-left n a (b / 2) (half_lt n b h))
    ∙ ap (λ (x : ℕ). bit_xor x (b % 2 * a)) (sym (xor_double (2 * p) s))
    ∙ xor_assoc (2 * (2 * p)) (2 * s) (b % 2 * a)
    ∙ ap (bit_xor (2 * (2 * p))) (cross a b)
    ∙ sym (xor_assoc (2 * (2 * p)) (2 * t) (a % 2 * b))
    ∙ ap (λ (x : ℕ). bit_xor x (a % 2 * b)) (xor_double (2 * p) t)

product_comm : (m n a b : ℕ) → b < 2 ^ m → a < 2 ^ n → carryless_product m a b ≡ carryless_product n b a
unfolding carryless_product
product_comm zero n a b hb ha = rw (lt-one hb) (sym (product-zero n a))
product_comm (suc m) n a b hb ha =
    ap (λ (x : ℕ). bit_xor (2 * x) (b % 2 * a)) (product_comm m n a (b / 2) (half_lt m b hb) ha) ∙ sym (product-left n b a ha)

pub times_comm : (a b : ℕ) → a < 2 ^ 128 → b < 2 ^ 128 → times a b ≡ times b a
unfolding times
times_comm a b ha hb = ap (remainder 128) (product_comm 128 128 a b hb ha)

-- ---- zero and one

remainder-zero : remainder 128 0 ≡ 0
unfolding remainder
remainder-zero = refl

pub times_zero : (a : ℕ) → a < 2 ^ 128 → times a 0 ≡ 0
unfolding times
times_zero a ha = times_comm a 0 ha (pow_pos 128) ∙ ap (remainder 128) (product-zero 128 a) ∙ remainder-zero

horner-zero : (n a : ℕ) → horner n a 0 ≡ 0
unfolding horner
horner-zero zero a = refl
horner-zero (suc n) a = ap₂ bit_xor (ap times_x (horner-zero n a) ∙ times_x-zero) (zero-mul a)

horner-one : (n a : ℕ) → horner (suc n) a 1 ≡ a
unfolding horner
horner-one n a = ap₂ bit_xor (ap times_x (horner-zero n a) ∙ times_x-zero) (one-mul a)

pub times-one : (a : ℕ) → a < 2 ^ 128 → times a 1 ≡ a
times-one a h = times-horner a 1 h ∙ horner-one 127 a

-- ---- three factors

horner-times_x : (n a b : ℕ) → horner n (times_x a) b ≡ times_x (horner n a b)
unfolding horner
horner-times_x zero a b = sym times_x-zero
horner-times_x (suc n) a b =
    ap₂ (λ (x y : ℕ). bit_xor (times_x x) y) (horner-times_x n a (b / 2)) (sym (bit_through times_x times_x-zero (b % 2) a (bit-lt b)))
    ∙ sym (times_x_xor (times_x (horner n a (b / 2))) (b % 2 * a))

times-times_x : (a h : ℕ) → a < 2 ^ 128 → h < 2 ^ 128 → times a (times_x h) ≡ times_x (times a h)
times-times_x a h ha hh =
    times_comm a (times_x h) ha (times_x-lt h hh)
    ∙ times-horner (times_x h) a (times_x-lt h hh)
    ∙ horner-times_x 128 h a
    ∙ ap times_x (sym (times-horner h a hh) ∙ times_comm h a hh ha)

horner_assoc : (n a b c : ℕ) → a < 2 ^ 128 → b < 2 ^ 128 → times a (horner n b c) ≡ horner n (times a b) c
unfolding horner
horner_assoc zero a b c ha hb = times_zero a ha
horner_assoc (suc n) a b c ha hb =
    let h = horner n b (c / 2) in
    times_xor a (times_x h) (c % 2 * b) ha
    ∙ ap₂ bit_xor
    (times-times_x a h ha (horner-lt n b (c / 2) hb) ∙ ap times_x (horner_assoc n a b (c / 2) ha hb))
    (bit_through (times a) (times_zero a ha) (c % 2) b (bit-lt c))

pub times_assoc : (a b c : ℕ) → a < 2 ^ 128 → b < 2 ^ 128 → times a (times b c) ≡ times (times a b) c
times_assoc a b c ha hb =
    rw (times-horner b c hb, times-horner (times a b) c (times-lt a b ha)) (horner_assoc 128 a b c ha hb)

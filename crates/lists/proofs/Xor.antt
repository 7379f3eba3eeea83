-- Laws of `bit_xor` on numbers of any size.
use mathlib.Core.Path.{◌≡◌, refl, sym, ap, ap₂, ◌∙◌}
use Prim.Native.Nat.{ℕ, zero, suc, ◌+◌, ◌*◌, ◌/◌, ◌%◌, ◌<◌, ◌≤◌}
use native.Mathlib.Nat.{zero-mul, one-mul, div-one, add_assoc, mod-add-mod, add-mod-mod}
use native.Mathlib.Omega.{arith}
use lib.Arith.{bin_ind}
use lib.Bits.{bit_xor, xor_shr, xor_comm, xor_self, xor_zero_r}
use Rattle.lists.proofs.Bits.{bit-xor}

pub xor-half : (a b : ℕ) → bit_xor a b / 2 ≡ bit_xor (a / 2) (b / 2)
xor-half a b = xor_shr a b 1

pub xor_odd : (a b : ℕ) → bit_xor a b % 2 ≡ (a % 2 + b % 2) % 2
xor_odd a b = rw (div-one (bit_xor a b), div-one a, div-one b) at (bit-xor 0 a b)

-- two numbers with one half and one lowest bit
pub same-halves : (x y : ℕ) → x / 2 ≡ y / 2 → x % 2 ≡ y % 2 → x ≡ y
same-halves x y h o = omega arith

parity_assoc : (x y z : ℕ) → ((x + y) % 2 + z) % 2 ≡ (x + (y + z) % 2) % 2
parity_assoc x y z = mod-add-mod (x + y) 2 z ∙ ap (λ (n : ℕ). n % 2) (add_assoc x y z) ∙ sym (add-mod-mod x (y + z) 2)

pub xor_assoc : (a b c : ℕ) → bit_xor (bit_xor a b) c ≡ bit_xor a (bit_xor b c)
xor_assoc a =
    bin_ind (λ (n : ℕ). (b c : ℕ) → bit_xor (bit_xor n b) c ≡ bit_xor n (bit_xor b c)) (λ b c. refl)
    (λ n rest b c. same-halves (bit_xor (bit_xor n b) c) (bit_xor n (bit_xor b c))
    (xor-half (bit_xor n b) c ∙ ap (λ (x : ℕ). bit_xor x (c / 2)) (xor-half n b)
    ∙ rest (b / 2) (c / 2)
    ∙ sym (xor-half n (bit_xor b c) ∙ ap (bit_xor (n / 2)) (xor-half b c)))
    (xor_odd (bit_xor n b) c ∙ ap (λ (x : ℕ). (x + c % 2) % 2) (xor_odd n b)
    ∙ parity_assoc (n % 2) (b % 2) (c % 2)
    ∙ sym (xor_odd n (bit_xor b c) ∙ ap (λ (x : ℕ). (n % 2 + x) % 2) (xor_odd b c)))) a

-- (a + b) + (c + d) = (a + c) + (b + d)
pub xor-swap : (a b c d : ℕ) → bit_xor (bit_xor a b) (bit_xor c d) ≡ bit_xor (bit_xor a c) (bit_xor b d)
xor-swap a b c d =
    xor_assoc a b (bit_xor c d)
    ∙ ap (bit_xor a) (sym (xor_assoc b c d) ∙ ap (λ (x : ℕ). bit_xor x d) (xor_comm b c) ∙ xor_assoc c b d)
    ∙ sym (xor_assoc a c (bit_xor b d))

-- (a + b) + c = (a + c) + b
pub xor-right : (a b c : ℕ) → bit_xor (bit_xor a b) c ≡ bit_xor (bit_xor a c) b
xor-right a b c = xor_assoc a b c ∙ ap (bit_xor a) (xor_comm b c) ∙ sym (xor_assoc a c b)

-- (a + b) + b = a
pub xor_twice : (a b : ℕ) → bit_xor (bit_xor a b) b ≡ a
xor_twice a b = xor_assoc a b b ∙ ap (bit_xor a) (xor_self b) ∙ xor_zero_r a

pub xor_double : (a b : ℕ) → bit_xor (2 * a) (2 * b) ≡ 2 * bit_xor a b
xor_double a b =
    let ha : 2 * a / 2 ≡ a = omega arith in
    let hb : 2 * b / 2 ≡ b = omega arith in
    let h : bit_xor (2 * a) (2 * b) / 2 ≡ bit_xor a b = xor-half (2 * a) (2 * b) ∙ ap₂ bit_xor ha hb in
    let o : bit_xor (2 * a) (2 * b) % 2 ≡ 0 = omega (arith, xor_odd (2 * a) (2 * b)) in
    omega (arith, h, o)

-- ---- a bit times a number

pub bit_le : (t a : ℕ) → t < 2 → t * a ≤ a
bit_le zero a h = omega arith
bit_le (suc zero) a h = omega arith
bit_le (suc (suc t)) a h = absurd (omega arith)

-- a function that keeps 0 keeps a bit as a factor
pub bit_through : (f : ℕ → ℕ) → f 0 ≡ 0 → (t a : ℕ) → t < 2 → f (t * a) ≡ t * f a
bit_through f z zero a h = rw (zero-mul a, zero-mul (f a)) z
bit_through f z (suc zero) a h = rw (one-mul a, one-mul (f a))
bit_through f z (suc (suc t)) a h = absurd (omega arith)

-- the sum of two bits as a factor
pub bits-times : (s t a : ℕ) → s < 2 → t < 2 → (s + t) % 2 * a ≡ bit_xor (s * a) (t * a)
bits-times zero zero a hs ht = rw (zero-mul a)
bits-times zero (suc zero) a hs ht = rw (zero-mul a)
bits-times zero (suc (suc t)) a hs ht = absurd (omega arith)
bits-times (suc zero) zero a hs ht = rw (zero-mul a) (sym (xor_zero_r (1 * a)))
bits-times (suc zero) (suc zero) a hs ht = zero-mul a ∙ sym (xor_self (1 * a))
bits-times (suc zero) (suc (suc t)) a hs ht = absurd (omega arith)
bits-times (suc (suc s)) t a hs ht = absurd (omega arith)

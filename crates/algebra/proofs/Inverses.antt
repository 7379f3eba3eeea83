-- Modulo a prime every residue but zero has an inverse, by Euclid's step; and a test for primes.
use mathlib.Core.Path.{◌≡◌, sym, ap, ◌∙◌, subst}
use mathlib.Core.Logic.{◌≢◌}
use mathlib.Core.Bool.{Bool, not}
use Prim.Native.Nat.{ℕ, zero, suc, ◌+◌, ◌-◌, ◌*◌, ◌/◌, ◌%◌, ◌≤◌, ◌<◌, zero-le, suc-le-suc}
use native.Mathlib.Nat.{mod-lt, mod-eq_of_lt, div-add-mod, div-add-mod', mul-mod_right, mul-add-mod_self_left, le_refl, add-zero, mul_assoc, add-mul, mul-sub}
use native.Mathlib.Nat.{mul-le-mul, mul-le-mul_left}
use native.Mathlib.Decide.{dec_lt}
use native.Mathlib.Omega.{arith}
use lib.Dec.{T, eqb, eqb_refl, T_not}
use Rattle.lists.proofs.Finite.{all_below, at_each}
use Rattle.algebra.specs.Ring.{CommRing, IsField, IsUnit}
use Rattle.algebra.specs.Residues.{Residue, residue, Prime}
use Rattle.algebra.specs.Numbers.{mul_mod}
use Rattle.algebra.proofs.Residues.{ℤ/, mod-mul-left, mod-mul-right, residue_of-value, of-mod, of_one, of-mul, zero_iff}

-- ---- primes by trial division

-- x + 2 does not divide q
abbrev pub undivided : ℕ → ℕ → Bool
undivided q x = not (eqb (q % (x + 2)) 0)

-- It is enough to try the numbers from 2 to b + 1 where q < (b + 2)²: of two factors one is that small.
pub prime_by-trial : (q b : ℕ) → 1 < q → q < (b + 2) * (b + 2) → T (all_below b (undivided q)) → Prime q
prime_by-trial q b above enough test = record { above-one = above; no_divisor = none }
  where
    small : (x : ℕ) → 1 < x → x < b + 2 → q % x ≢ 0
    small zero h l e = omega arith
    small (suc zero) h l e = omega arith
    small (suc (suc x)) h l e =
        T_not (eqb (q % (x + 2)) 0) (at_each b (undivided q) test x (omega arith))
        (subst (λ (m : ℕ). T (eqb m 0)) (sym (ap (λ (m : ℕ). q % m) (omega arith) ∙ e)) (eqb_refl 0))

    none : (x : ℕ) → 1 < x → x < q → q % x ≢ 0
    none x h l e = by (dec_lt x (b + 2)) (dec_lt y (b + 2))
      where
        y : ℕ
        y = q / x

        whole : y * x ≡ q
        whole = sym (add-zero (y * x)) ∙ ap (λ (m : ℕ). y * x + m) (sym e) ∙ div-add-mod' q x

        divides : q % y ≡ 0
        divides = ap (λ (m : ℕ). m % y) (sym whole) ∙ mul-mod_right y x

        more : (y : ℕ) → y * x ≡ q → 1 < y
        more zero w = absurd (omega arith)
        more (suc zero) w = absurd (omega arith)
        more (suc (suc y)) w = omega arith

        by : Dec (x < b + 2) → Dec (y < b + 2) → ⊥
        by (yes s) d = small x h s e
        by (no s) (yes d) = small y (more y whole) d divides
        by (no s) (no d) =
            let large : (b + 2) * (b + 2) ≤ y * x = mul-le-mul {n₁ = b + 2} {m₁ = b + 2} {n₂ = y} {m₂ = x} (omega arith) (omega arith) in
            omega (arith, large, whole)

-- ---- inverses

-- from the inverse y of q % x to that of x
pub euclid_step : (q x y : ℕ) → 0 < x → mul_mod q (q % x) y ≡ 1 → mul_mod q x (mul_mod q (q - q / x) y) ≡ 1
euclid_step q x y h e =
    mod-mul-right x ((q - q / x) * y) q
    ∙ ap (λ (n : ℕ). n % q) (sym (mul_assoc x (q - q / x) y) ∙ ap (λ (n : ℕ). n * y) multiple ∙ add-mul (q * (x - 1)) (q % x) y
    ∙ ap (λ (n : ℕ). n + q % x * y) (mul_assoc q (x - 1) y))
    ∙ mul-add-mod_self_left q ((x - 1) * y) (q % x * y) ∙ e
  where
    least : q * 1 ≤ q * x
    least = mul-le-mul_left q h

    multiple : x * (q - q / x) ≡ q * (x - 1) + q % x
    multiple = omega (arith, mul-sub x q (q / x), mul-sub q x 1, div-add-mod q x, least)

module _ (q : ℕ) (prime : Prime q) where
  -- the numbers fall from x to q % x, so `fuel` steps suffice
  inverse-below : (fuel x : ℕ) → x ≤ fuel → 0 < x → x < q → (y : ℕ) × (mul_mod q x y ≡ 1)
  inverse-below zero x h g l = absurd (omega arith)
  inverse-below (suc f) zero h g l = absurd (omega arith)
  inverse-below (suc f) (suc zero) h g l = (1, mod-eq_of_lt prime.above-one)
  inverse-below (suc f) (suc (suc n)) h g l = next (inverse-below f (q % x) (omega (arith, small)) (omega (arith, some)) (omega (arith, small)))
    where
      x : ℕ
      x = suc (suc n)

      small : q % x < x
      small = mod-lt q {m = x} (suc-le-suc zero-le)

      some : q % x ≢ 0
      some = prime.no_divisor x (omega arith) l

      next : (y : ℕ) × (mul_mod q (q % x) y ≡ 1) → (y : ℕ) × (mul_mod q x y ≡ 1)
      next (y, e) = (mul_mod q (q - q / x) y, euclid_step q x y g e)

  -- a number that q does not divide has an inverse modulo q
  pub inverse-modulo : (x : ℕ) → x % q ≢ 0 → (y : ℕ) × (mul_mod q x y ≡ 1)
  inverse-modulo x h = to-x (inverse-below (x % q) (x % q) (le_refl _) (omega arith) (mod-lt x (omega (arith, prime.above-one))))
    where
      to-x : (y : ℕ) × (mul_mod q (x % q) y ≡ 1) → (y : ℕ) × (mul_mod q x y ≡ 1)
      to-x (y, e) = (y, sym (mod-mul-left x y q) ∙ e)

  module _ (pos : 0 < q) where
    abbrev Z : CommRing (Residue q)
    Z = ℤ/ q pos

    abbrev z : ℕ → Residue q
    z = residue q pos

    open Z use {◌⊗◌, 𝟘, 𝟙}

    inverse : (x : Residue q) → ¬ (x ≡ 𝟘) → IsUnit Z x
    inverse x h = subst (IsUnit Z) (residue_of-value q pos x) (unit (inverse-modulo x.0 (λ e. h (sym (residue_of-value q pos x) ∙ (zero_iff q pos x.0).1 e))))
      where
        unit : (y : ℕ) × (mul_mod q x.0 y ≡ 1) → IsUnit Z (z x.0)
        unit (y, e) = (z y, sym (of-mul q pos x.0 y) ∙ sym (of-mod q pos (x.0 * y)) ∙ ap z e ∙ of_one q pos)

    one_not_zero : ¬ (𝟙 ≡ 𝟘)
    one_not_zero e = omega (arith, sym (mod-eq_of_lt prime.above-one) ∙ (zero_iff q pos 1).0 (of_one q pos ∙ e))

    pub prime-field : IsField Z
    prime-field = record { one_not_zero = one_not_zero; inverse = inverse }

-- What `reciprocal_of` is: the one inverse below q of every number that q does not divide, and 0 of the multiples of q.
use mathlib.Core.Path.{◌≡◌, refl, sym, ap, ◌∙◌}
use mathlib.Core.Logic.{◌≢◌}
use mathlib.Core.Bool.{cond}
use Prim.Native.Nat.{ℕ, zero, suc, ◌+◌, ◌-◌, ◌*◌, ◌/◌, ◌%◌, ◌<◌, ◌≤◌}
use native.Mathlib.Nat.{mod-lt, mod-mod, mod-eq_of_lt, zero-mul, mul-zero, one-mul}
use native.Mathlib.Decide.{ℕ_discrete}
use native.Mathlib.Omega.{arith}
use lib.Dec.{eqb}
use borrow.Author.Tests.{eq-eqb, ne_eqb}
use Rattle.algebra.specs.Numbers.{mul_mod}
use Rattle.algebra.proofs.Residues.{mod-mul-left, mod-mul-right}
use Rattle.algebra.proofs.Inverses.{euclid_step, inverse-modulo}
use Rattle.modq.specs.Modulus.{q, search_from, reciprocal_of}
use Rattle.modq.proofs.Prime.{q-positive, q-prime}
use Rattle.modq.proofs.Products.{inverse-unique, mul_mod_comm, mul_mod_assoc}

-- ---- the search

found : (x r s count : ℕ) → r ≤ s → s < r + count → mul_mod q x s ≡ 1 → ((t : ℕ) → t < s → mul_mod q x t ≢ 1) → search_from x r count ≡ s
unfolding search_from
found x r s zero h g e f = absurd (omega arith)
found x r s (suc count) h g e f = at (λ l. found x (suc r) s count l (omega arith) e f) (ℕ_discrete r s)
  where
    at : (suc r ≤ s → search_from x (suc r) count ≡ s) → Dec (r ≡ s) → cond (eqb (mul_mod q x r) 1) r (search_from x (suc r) count) ≡ s
    at later (yes p) = rw (eq-eqb (mul_mod q x r) 1 (ap (mul_mod q x) p ∙ e)) p
    at later (no p) = rw (ne_eqb (mul_mod q x r) 1 (f r (omega arith))) (later (omega arith))

missed : (x r count : ℕ) → ((t : ℕ) → mul_mod q x t ≢ 1) → search_from x r count ≡ 0
unfolding search_from
missed x r zero f = refl
missed x r (suc count) f = rw (ne_eqb (mul_mod q x r) 1 (f r)) (missed x (suc r) count f)

-- ---- what it finds

-- an inverse below q is the reciprocal
pub reciprocal_is : (x s : ℕ) → s < q → mul_mod q x s ≡ 1 → reciprocal_of x ≡ s
unfolding reciprocal_of
reciprocal_is x s h e = found x 0 s q (omega arith) (omega arith) e (λ t l d. omega (arith, inverse-unique q x t s (omega arith) h d e))

-- a multiple of q has none
pub reciprocal_none : (x : ℕ) → x % q ≡ 0 → reciprocal_of x ≡ 0
unfolding reciprocal_of
reciprocal_none x e = missed x 0 q (λ t d.
    let z : mul_mod q x t ≡ 0 = sym (mod-mul-left x t q) ∙ ap (λ (n : ℕ). mul_mod q n t) e ∙ ap (λ (n : ℕ). n % q) (zero-mul t) in
    omega (arith, d, z))

-- every other number has one
module _ (x : ℕ) (h : x % q ≢ 0) where
  inverse : (s : ℕ) × (s < q) × (mul_mod q x s ≡ 1)
  inverse = reduce (inverse-modulo q q-prime x h)
    where
      reduce : (y : ℕ) × (mul_mod q x y ≡ 1) → (s : ℕ) × (s < q) × (mul_mod q x s ≡ 1)
      reduce (y, e) = (y % q, mod-lt y q-positive, mod-mul-right x y q ∙ e)

  found-inverse : reciprocal_of x ≡ inverse.0
  found-inverse = reciprocal_is x inverse.0 inverse.1 inverse.2

  pub reciprocal-times : mul_mod q x (reciprocal_of x) ≡ 1
  reciprocal-times = ap (mul_mod q x) found-inverse ∙ inverse.2

  reciprocal-small : reciprocal_of x < q
  reciprocal-small = rw found-inverse inverse.1

pub reciprocal-below : (x : ℕ) → reciprocal_of x < q
reciprocal-below x = by (ℕ_discrete (x % q) 0)
  where
    by : Dec (x % q ≡ 0) → reciprocal_of x < q
    by (yes e) = rw (reciprocal_none x e) q-positive
    by (no e) = reciprocal-small x e

-- a product is a multiple of q only where a factor is
pub nonzero-product : (x y : ℕ) → x % q ≢ 0 → y % q ≢ 0 → mul_mod q x y % q ≢ 0
nonzero-product x y hx hy e = hy (
    sym (ap (λ (m : ℕ). m % q) (one-mul y)) ∙ ap (λ (m : ℕ). mul_mod q m y) (sym (mul_mod_comm q (reciprocal_of x) x ∙ reciprocal-times x hx))
    ∙ mul_mod_assoc q (reciprocal_of x) x y ∙ ap (mul_mod q (reciprocal_of x)) (sym (mod-mod (x * y) q) ∙ e)
    ∙ ap (λ (m : ℕ). m % q) (mul-zero (reciprocal_of x)))

-- it goes by the residue
pub reciprocal-mod : (x : ℕ) → reciprocal_of (x % q) ≡ reciprocal_of x
reciprocal-mod x = by (ℕ_discrete (x % q) 0)
  where
    by : Dec (x % q ≡ 0) → reciprocal_of (x % q) ≡ reciprocal_of x
    by (yes e) = reciprocal_none (x % q) (mod-mod x q ∙ e) ∙ sym (reciprocal_none x e)
    by (no e) =
        reciprocal_is (x % q) (reciprocal_of x) (reciprocal-below x) (mod-mul-left x (reciprocal_of x) q ∙ reciprocal-times x e)

-- ---- the steps of the recursion, on the residue y of x

pub reciprocal-small-residue : (x : ℕ) → x % q ≤ 1 → x % q ≡ reciprocal_of x
reciprocal-small-residue x h = by (ℕ_discrete (x % q) 0)
  where
    by : Dec (x % q ≡ 0) → x % q ≡ reciprocal_of x
    by (yes e) = e ∙ sym (reciprocal_none x e)
    by (no e) =
        let one : x % q ≡ 1 = omega arith in
        one ∙ sym (reciprocal_is 1 1 (omega arith) refl) ∙ ap reciprocal_of (sym one) ∙ reciprocal-mod x

pub reciprocal_step : (x r s : ℕ) → 1 < x % q → r ≡ reciprocal_of (q % (x % q)) → s ≡ mul_mod q (q - q / (x % q)) r → s ≡ reciprocal_of x
reciprocal_step x r s h e f =
    let y : ℕ = x % q in
    let small : q % y < y = mod-lt q (omega arith) in
    let some : q % y % q ≢ 0 = λ d. q-prime.no_divisor y h (mod-lt x q-positive) (sym (mod-eq_of_lt (omega (arith, small, mod-lt x q-positive))) ∙ d) in
    let inverse : mul_mod q (q % y) r ≡ 1 = ap (mul_mod q (q % y)) e ∙ reciprocal-times (q % y) some in
    sym (sym (reciprocal-mod x)
    ∙ reciprocal_is y s (rw f (mod-lt _ q-positive)) (ap (mul_mod q y) f ∙ euclid_step q y r (omega arith) inverse))

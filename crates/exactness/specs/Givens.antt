-- What the promises are argued from: the degree, the modulus, the rule and the noise bound of a setting, and that its fields are what
-- their names say.
use Rattle.std.specs.Prelude.{◌≡◌, true, List, ◌↔◌, ℕ, suc, ◌+◌, ◌*◌, ◌/◌, ◌≤◌, ◌<◌, nat_abs, length}
use Rattle.algebra.specs.Residues.{Residue, residue}
use Rattle.algebra.specs.Numbers.{mul_mod}
use Rattle.algebra.specs.OnNumbers.{IsProduct}
use Rattle.algebra.specs.Size.{Spread, magnitude}
use Rattle.algebra.proofs.Residues.{ℤ/}
use Rattle.exactness.specs.Setting.{Setting, Element, Within, Bounded, sum, multiple}

pub record Givens (S : Setting) : Type 0 where
  -- the modulus, and the degree, which is p + 1
  pub q-positive : 0 < S.q
  pub p : ℕ
  pub degree : S.n ≡ suc p
  -- the product is that of polynomials modulo q and X^n - rule, and the rule makes coefficients at most κ times as large
  pub rule : List (Residue S.q)
  pub is-product : IsProduct (ℤ/ S.q q-positive) (residue S.q q-positive) S.q p rule S.product
  pub κ : ℕ
  pub spread : Spread (ℤ/ S.q q-positive) p rule κ
  pub five-fifth : mul_mod S.q 5 S.fifth ≡ 1
  -- the size of a centred value is the distance to the nearest multiple of q, and `is_within` tests it
  pub centred-size : (c : ℕ) → nat_abs (S.centred c) ≡ magnitude S.q c
  pub within_iff : (k : ℕ) (a : List ℕ) → length a ≡ S.n → (S.is_within k a ≡ true) ↔ Within S k a
  -- the remainders of e + 5 w are e, where e is between - 2 and 2 and w is so small that nothing wraps
  pub remainders-element : (m : List ℕ) → Element S (S.remainders m)
  pub remainders_are : (k : ℕ) (e w : List ℕ) → 2 + 5 * k ≤ S.q / 2 → Bounded S 2 e → Within S k w → S.remainders (sum S e (multiple S 5 w)) ≡ e
  -- the noise bound: nothing wraps, whatever the key and the sums
  pub noise-bound : 2 + 20 * κ * S.n ≤ S.q / 2

-- The transform on lists of numbers for X^n = - 1, where n = 2^d: from a number g whose n-th power is - 1 modulo the prime q.
use Rattle.std.specs.Prelude.{◌≡◌, List, map, ℕ, suc, ◌-◌, ◌^◌}
use Rattle.algebra.specs.Residues.{Prime}
use Rattle.algebra.specs.Numbers.{mul_mod, pow_mod, forward_mod, backward_mod}

-- n = p + 1 = 2^d, and u is the inverse of n
pub record NegacyclicRoot (q p d g u : ℕ) : Type 0 where
  pub degree : suc p ≡ 2 ^ d
  pub prime : Prime q
  pub root : pow_mod q g (2 ^ d) ≡ q - 1
  pub inverse : mul_mod q u (2 ^ d) ≡ 1

-- the values at the n roots of X^n + 1
unfoldable pub spectrum : (q d g : ℕ) → List ℕ → List ℕ
spectrum q d g a = forward_mod q g (2 ^ d) 1 (λ c l. l) d (2 ^ d) a

-- the coefficients from the values
unfoldable pub from_spectrum : (q d g u : ℕ) → List ℕ → List ℕ
from_spectrum q d g u v = map (mul_mod q u) (backward_mod q g (2 ^ d) 1 (λ c l. l) d (2 ^ d) v)

-- The transform of polynomials modulo X^1024 + 1 and q = 59393: coefficients to values at the roots of X^1024 + 1, and back.
use Rattle.std.specs.Prelude.{List, ℕ, ◌+◌, ◌*◌, get_or}
use Rattle.lists.specs.Table.{table}
use Rattle.algebra.specs.Halving.{reversed}
use Rattle.algebra.specs.Numbers.{mul_mod, value_mod}
use Rattle.algebra.specs.Negacyclic.{from_spectrum}
pub use Rattle.twiddles.specs.Powers.{q, degree, ψ, power}

-- 1 / 1024 modulo q
abbrev pub inverse_degree : ℕ
inverse_degree = 59335

-- entry k is the value of the polynomial at ψ^(2 j + 1), where j is k with its ten bits in reverse order
unfoldable pub spectrum_of : List ℕ → List ℕ
spectrum_of a = table degree (λ k. value_mod q (power (1 + 2 * reversed 10 k)) a)

-- the polynomial with the values v: `coefficients_of-spectrum` and `spectrum_of-coefficients` say that it is the only one
unfoldable pub coefficients_of : List ℕ → List ℕ
coefficients_of v = from_spectrum q 10 ψ inverse_degree v

-- the values of a product, from those of its two factors
unfoldable pub pointwise : (v w : List ℕ) → List ℕ
pointwise v w = table degree (λ k. mul_mod q (get_or v k 0) (get_or w k 0))

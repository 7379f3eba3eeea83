-- The powers of ψ, a root of X^1024 + 1 modulo q = 59393.
use Rattle.std.specs.Prelude.{List, ℕ}
use Rattle.lists.specs.Table.{table}
use Rattle.algebra.specs.Numbers.{pow_mod}
use Rattle.modq.specs.Montgomery.{montgomery_form}
pub use Rattle.modq.specs.Modulus.{q}

abbrev pub degree : ℕ
degree = 1024

-- the least number whose 1024th power is - 1 modulo q
abbrev pub ψ : ℕ
ψ = 3

-- ψ^k modulo q
abbrev pub power : ℕ → ℕ
power k = pow_mod q ψ k

-- the constant table: 1, ψ, ψ², .., ψ^1023 modulo q
unfoldable pub powers_table : List ℕ
powers_table = table degree power

-- its entries in Montgomery's form
unfoldable pub power_forms : List ℕ
power_forms = table degree (λ k. montgomery_form (power k))

-- Montgomery's form of a factor: 2^16 times the factor, so that a product needs no division by q.
use Rattle.std.specs.Prelude.{ℕ}
use Rattle.algebra.specs.Numbers.{mul_mod}
use Rattle.modq.specs.Modulus.{q}

abbrev pub montgomery_form : ℕ → ℕ
montgomery_form x = mul_mod q x 65536

-- the number that has the form w: 53824 is 1 / 2^16 modulo q
abbrev pub from_montgomery : ℕ → ℕ
from_montgomery w = mul_mod q w 53824

-- w y / 2^16 modulo q
abbrev pub montgomery_product : ℕ → ℕ → ℕ
montgomery_product w y = mul_mod q (from_montgomery w) y

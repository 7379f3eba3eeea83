-- The modulus q, and reciprocals modulo q. Sums, differences and products are `add_mod q`, `sub_mod q` and `mul_mod q` of crate algebra.
use Rattle.std.specs.Prelude.{cond, ℕ, zero, suc, eqb}
use Rattle.algebra.specs.Numbers.{mul_mod}

-- 29 × 2,048 + 1, a prime
abbrev pub q : ℕ
q = 59393

-- the first of the `count` numbers from r on whose product with x is 1 modulo q; 0 where there is none
unfoldable pub search_from : ℕ → ℕ → ℕ → ℕ
search_from x r zero = 0
search_from x r (suc count) = cond (eqb (mul_mod q x r) 1) r (search_from x (suc r) count)

-- the number below q whose product with x is 1 modulo q; 0 where there is none, which is so for the multiples of q
unfoldable pub reciprocal_of : ℕ → ℕ
reciprocal_of x = search_from x 0 q

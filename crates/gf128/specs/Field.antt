-- The field of 2^128 elements modulo x^128 + x^7 + x^2 + x + 1 (document 01, "Bytes"). A polynomial over GF(2) is the number whose bit i is its
-- coefficient of x^i; a sum of polynomials is `bit_xor`, and 2 * p is x × p.
use Rattle.std.specs.Prelude.{ℕ, zero, suc, ◌+◌, ◌*◌, ◌/◌, ◌%◌, ◌^◌}
use Rattle.std.specs.Int.Bits.{bit_xor}
use Rattle.lists.specs.Bits.{bit}

-- x^128 + x^7 + x^2 + x + 1
abbrev pub modulus : ℕ
modulus = 2 ^ 128 + 2 ^ 7 + 2 ^ 2 + 2 + 1

-- the product of polynomials, the second of degree below n: a × (b0 + x × b') = x × (a × b') + b0 × a
unfoldable pub carryless_product : ℕ → ℕ → ℕ → ℕ
carryless_product zero a b = 0
carryless_product (suc n) a b = bit_xor (2 * carryless_product n a (b / 2)) (b % 2 * a)

-- long division by the modulus, the highest term first: what is left of a polynomial of degree below 128 + n
unfoldable pub remainder : ℕ → ℕ → ℕ
remainder zero p = p
remainder (suc n) p = remainder n (bit_xor p (bit (128 + n) p * (modulus * 2 ^ n)))

-- the product in the field, of two polynomials of degree below 128
unfoldable pub times : ℕ → ℕ → ℕ
times a b = remainder 128 (carryless_product 128 a b)

-- Ternary polynomials from random bytes: four bits a coefficient, the low four bits of a byte first.
use Rattle.std.specs.Prelude.{List, ℕ, zero, suc, ℤ, pos, negsuc, neg_ℤ, ◌+ℤ◌, ◌-ℤ◌}
use Rattle.lists.specs.Table.{table}
use Rattle.lists.specs.Bits.{bit}
use Rattle.ring.specs.Ring.{n}
use Rattle.ring.specs.Centred.{residue}
use Rattle.encoding.specs.Digits.{digit_at}

-- a sum between - 2 and 2, where 2 becomes - 1 and - 2 becomes 1
unfoldable pub folded : ℤ → ℤ
folded (pos zero) = pos 0
folded (pos (suc zero)) = pos 1
folded (pos (suc (suc s))) = neg_ℤ (pos 1)
folded (negsuc zero) = neg_ℤ (pos 1)
folded (negsuc (suc s)) = pos 1

-- t0 - t1 + t2 - t3 of the four lowest bits, folded (document 02, No. 1)
unfoldable pub four_bits : ℕ → ℤ
four_bits t = folded (pos (bit 0 t) -ℤ pos (bit 1 t) +ℤ pos (bit 2 t) -ℤ pos (bit 3 t))

-- the coefficient that four bits give
unfoldable pub noise_coefficient : ℕ → ℕ
noise_coefficient t = residue (four_bits t)

-- the k-th four bits of bytes; a missing byte counts as 0
abbrev pub nibble_at : (bytes : List ℕ) (k : ℕ) → ℕ
nibble_at bytes k = digit_at 16 2 bytes k

-- n coefficients, by the rule that gives one of four bits
unfoldable pub noise_by : (rule : ℕ → ℕ) (n : ℕ) (bytes : List ℕ) → List ℕ
noise_by rule n bytes = table n (λ k. rule (nibble_at bytes k))

-- how many bytes a ternary polynomial is read from
abbrev pub noise_length : ℕ
noise_length = 512

-- the ternary polynomial of the first 512 bytes
abbrev pub ternary_noise : List ℕ → List ℕ
ternary_noise bytes = noise_by noise_coefficient n bytes

-- The step mappings as FIPS 202, section 3.2, states them: on the bits A[x, y, z] of a state array. Those of
-- `keccak_steps` and `keccak` are on lanes; `keccak_bits_lem` of proofs/Keccak.antt shows that they are the same.
use Rattle.std.specs.Prelude.{ℕ, zero, suc, ◌+◌, ◌*◌, ◌-◌, ◌%◌, cond, ◌&&◌, eqb}
use Rattle.lists.specs.Bits.{bit}
use Rattle.keccak_steps.specs.Constants.{offset, round_constant}
use Rattle.keccak_steps.specs.Steps.{State, lane}

-- A[x, y, z], each 0 or 1
abbrev pub Array : Type 0
Array = ℕ → ℕ → ℕ → ℕ

-- the state array of a state: bit z of lane (x, y)
abbrev pub bits : State → Array
bits a x y z = bit z (lane a x y)

infixl 65 ◌⊕◌
-- exclusive or of two bits
abbrev pub ◌⊕◌ : ℕ → ℕ → ℕ
a ⊕ b = (a + b) % 2

-- Algorithm 1, step 1: C[x, z]
abbrev pub parity_bit : Array → ℕ → ℕ → ℕ
parity_bit A x z = A x 0 z ⊕ A x 1 z ⊕ A x 2 z ⊕ A x 3 z ⊕ A x 4 z

-- Algorithm 1, step 2: D[x, z]
abbrev pub effect_bit : Array → ℕ → ℕ → ℕ
effect_bit A x z = parity_bit A ((x + 4) % 5) z ⊕ parity_bit A ((x + 1) % 5) ((z + 63) % 64)

-- Algorithm 1
unfoldable pub theta_bits : Array → Array
theta_bits A x y z = A x y z ⊕ effect_bit A x z

-- Algorithm 2: A[x, y, (z - (t + 1)(t + 2) / 2) mod 64]
unfoldable pub rho_bits : Array → Array
rho_bits A x y z = A x y ((z + (64 - offset x y % 64)) % 64)

-- Algorithm 3
unfoldable pub pi_bits : Array → Array
pi_bits A x y z = A ((x + 3 * y) % 5) x z

-- Algorithm 4
unfoldable pub chi_bits : Array → Array
chi_bits A x y z = A x y z ⊕ (A ((x + 1) % 5) y z ⊕ 1) * A ((x + 2) % 5) y z

-- Algorithm 6, where RC is a number
unfoldable pub iota_bits : ℕ → Array → Array
iota_bits ir A x y z = cond (eqb x 0 && eqb y 0) (A x y z ⊕ bit z (round_constant ir)) (A x y z)

-- Section 3.3: Rnd(A, ir)
unfoldable pub round_bits : ℕ → Array → Array
round_bits ir A = iota_bits ir (chi_bits (pi_bits (rho_bits (theta_bits A))))

-- Algorithm 7, step 2: the rounds 0 to n - 1
unfoldable pub rounds_bits : ℕ → Array → Array
rounds_bits zero A = A
rounds_bits (suc n) A = round_bits n (rounds_bits n A)

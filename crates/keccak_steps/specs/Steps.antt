-- The state of Keccak-p[1600, 24] and its step mappings, FIPS 202, sections 3.1 and 3.2, on lanes of 64 bits.
use Rattle.std.specs.Prelude.{List, [], ◌∷◌, ℕ, zero, suc, ◌+◌, ◌*◌, ◌/◌, ◌%◌, ◌-◌, ◌^◌, get_or, set}
use Rattle.std.specs.Int.Bits.{bit_xor, bit_and, bit_or}
use Rattle.keccak_steps.specs.Constants.{offset, round_constant}

-- Section 3.1: a state is five planes, y = 0 first, of five lanes, x = 0 first; lane (x, y) is the number whose bit z is A[x, y, z]
abbrev pub State : Type 0
State = List (List ℕ)

abbrev pub lane : State → ℕ → ℕ → ℕ
lane a x y = get_or (get_or a y []) x 0

-- the plane of the lanes f 0 to f 4, and the state of the lanes f x y
abbrev pub plane : (ℕ → ℕ) → List ℕ
plane f = f 0 ∷ f 1 ∷ f 2 ∷ f 3 ∷ f 4 ∷ []

abbrev pub state : (ℕ → ℕ → ℕ) → State
state f = plane (λ x. f x 0) ∷ plane (λ x. f x 1) ∷ plane (λ x. f x 2) ∷ plane (λ x. f x 3) ∷ plane (λ x. f x 4) ∷ []

-- a lane turned by n places: bit z goes to bit (z + n) mod 64
abbrev pub rotate : ℕ → ℕ → ℕ
rotate zero v = v
rotate (suc n) v = bit_or ((v * 2 ^ suc n) % 2 ^ 64) (v / 2 ^ (64 - suc n))

abbrev pub complement : ℕ → ℕ
complement v = 2 ^ 64 - 1 - v

-- Algorithm 1, step 1: C[x]
abbrev pub parity : State → ℕ → ℕ
parity a x = bit_xor (bit_xor (bit_xor (bit_xor (lane a x 0) (lane a x 1)) (lane a x 2)) (lane a x 3)) (lane a x 4)

-- Algorithm 1, step 2: D[x]
abbrev pub effect : State → ℕ → ℕ
effect a x = bit_xor (parity a ((x + 4) % 5)) (rotate 1 (parity a ((x + 1) % 5)))

-- Algorithm 1
abbrev pub theta : State → State
theta a = state (λ x y. bit_xor (lane a x y) (effect a x))

-- Algorithm 2
abbrev pub rho : State → State
rho a = state (λ x y. rotate (offset x y % 64) (lane a x y))

-- Algorithm 3
abbrev pub pi : State → State
pi a = state (λ x y. lane a ((x + 3 * y) % 5) x)

-- Algorithm 4 on one plane
abbrev pub chi_plane : List ℕ → List ℕ
chi_plane p = plane (λ x. bit_xor (get_or p x 0) (bit_and (complement (get_or p ((x + 1) % 5) 0)) (get_or p ((x + 2) % 5) 0)))

-- Algorithm 4
abbrev pub chi : State → State
chi a = chi_plane (get_or a 0 []) ∷ chi_plane (get_or a 1 []) ∷ chi_plane (get_or a 2 []) ∷ chi_plane (get_or a 3 []) ∷ chi_plane (get_or a 4 []) ∷ []

-- Algorithm 6
abbrev pub iota : ℕ → State → State
iota ir a = set a 0 (set (get_or a 0 []) 0 (bit_xor (lane a 0 0) (round_constant ir)))

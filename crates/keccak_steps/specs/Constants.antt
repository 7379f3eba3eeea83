-- The constants of Keccak-p[1600, 24] by the rules of FIPS 202, section 3.2: the offsets of algorithm 2 and the round constants of
-- algorithms 5 and 6.
use Rattle.std.specs.Prelude.{◌&&◌, cond, List, [], ◌∷◌, ℕ, zero, suc, ◌+◌, ◌*◌, ◌/◌, ◌%◌, ◌-◌, ◌^◌, eqb, get_or}
use Rattle.std.specs.Int.Bits.{bit_xor}

-- Algorithm 2, step 3, for the n turns from t on, with the walk now at lane (u, v): the offset (t + 1)(t + 2) / 2 of lane (x, y)
abbrev pub offset_from : ℕ → ℕ → ℕ → ℕ → ℕ → ℕ → ℕ
offset_from zero t u v x y = 0
offset_from (suc n) t u v x y =
    cond (eqb u x && eqb v y) ((t + 1) * (t + 2) / 2) (offset_from n (t + 1) v ((2 * u + 3 * v) % 5) x y)

-- Algorithm 2: the walk of 24 turns starts at lane (1, 0); lane (0, 0) is not on it and stays as it is
abbrev pub offset : ℕ → ℕ → ℕ
offset x y = offset_from 24 0 1 0 x y

-- Algorithm 5, step 3: one turn of the register R of eight bits, R[0] first
abbrev pub turn : List ℕ → List ℕ
turn r =
    get_or r 7 0
    ∷ get_or r 0 0
    ∷ get_or r 1 0
    ∷ get_or r 2 0
    ∷ bit_xor (get_or r 3 0) (get_or r 7 0)
    ∷ bit_xor (get_or r 4 0) (get_or r 7 0)
    ∷ bit_xor (get_or r 5 0) (get_or r 7 0)
    ∷ get_or r 6 0
    ∷ []

abbrev pub turns : ℕ → List ℕ → List ℕ
turns zero r = r
turns (suc t) r = turns t (turn r)

-- Algorithm 5: rc(t) is R[0] after t mod 255 turns of 10000000
abbrev pub rc : ℕ → ℕ
rc t = get_or (turns (t % 255) (1 ∷ 0 ∷ 0 ∷ 0 ∷ 0 ∷ 0 ∷ 0 ∷ 0 ∷ [])) 0 0

-- Algorithm 6, steps 2 and 3: RC has the bit rc(j + 7 ir) at 2^j - 1, here for j below n, and no other bit
abbrev pub round_constant_to : ℕ → ℕ → ℕ
round_constant_to ir zero = 0
round_constant_to ir (suc j) = round_constant_to ir j + rc (j + 7 * ir) * 2 ^ (2 ^ j - 1)

-- RC of round ir, for j from 0 to 6
unfoldable pub round_constant : ℕ → ℕ
round_constant ir = round_constant_to ir 7

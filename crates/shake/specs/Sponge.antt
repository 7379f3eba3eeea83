-- The sponge of FIPS 202, section 4, over Keccak-p[1600, 24], on strings of whole bytes. The rate r is counted in bytes.
use Rattle.std.specs.Prelude.{List, [], ◌++◌, ℕ, zero, suc, ◌+◌, ◌*◌, ◌/◌, ◌%◌, ◌-◌, ◌<◌, ◌≤◌, ◌≡◌, length, take, drop}
use Rattle.std.specs.Int.Bits.{bit_xor}
use Rattle.lists.specs.Table.{zeros}
use Rattle.keccak_steps.specs.Steps.{State, lane, state}
use Rattle.keccak.specs.Keccak.{keccak_f}
use Rattle.string_to_state.specs.Words.{state_of}
use Rattle.state_to_string.specs.Bytes.{bytes_of}

-- a rate of whole lanes
pub record Rate (r : ℕ) : Type 0 where
  pub lanes : r % 8 ≡ 0
  pub some : 0 < r
  pub most : r ≤ 200

-- ---- Algorithm 8

abbrev pub xor_state : State → State → State
xor_state s t = state (λ x y. bit_xor (lane s x y) (lane t x y))

-- step 5: 0^b
abbrev pub zero_state : State
zero_state = state (λ x y. 0)

-- step 6 for one block p of r bytes: f(S ⊕ (p || 0^c))
unfoldable pub absorb_block : ℕ → State → List ℕ → State
absorb_block r s p = keccak_f (xor_state s (state_of (p ++ zeros (200 - r))))

-- step 4: P_i
abbrev pub block : ℕ → ℕ → List ℕ → List ℕ
block r i p = take r (drop (r * i) p)

-- steps 5 and 6: S after the first n blocks of p
unfoldable pub absorbed : ℕ → ℕ → List ℕ → State
absorbed r zero p = zero_state
absorbed r (suc n) p = absorb_block r (absorbed r n p) (block r n p)

-- step 10: S after n more permutations
unfoldable pub permuted : ℕ → State → State
permuted zero s = s
permuted (suc n) s = keccak_f (permuted n s)

-- steps 7 to 10: Z after n blocks, each Trunc_r(S)
unfoldable pub squeezed : ℕ → ℕ → State → List ℕ
squeezed r zero s = []
squeezed r (suc n) s = squeezed r n s ++ take r (bytes_of (permuted n s))

-- the state that has taken in the string p of whole blocks
unfoldable pub absorb : ℕ → List ℕ → State
absorb r p = absorbed r (length p / r) p

-- step 9: Trunc_d(Z), of as many blocks as hold d bytes
unfoldable pub squeeze : ℕ → State → ℕ → List ℕ
squeeze r s d = take d (squeezed r (d / r + 1) s)

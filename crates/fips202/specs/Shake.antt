-- SHAKE128 and SHAKE256 as FIPS 202 states them, on strings of bits; each entry of a list is 0 or 1. `shake128_bits_lem` and
-- `shake256_bits_lem` of proofs/Shake.antt show that the definitions on bytes are the same.
use Rattle.std.specs.Prelude.{List, [], ◌∷◌, ◌++◌, ℕ, zero, suc, ◌+◌, ◌*◌, ◌/◌, ◌%◌, ◌-◌, length, get_or, take, drop}
use Rattle.lists.specs.Table.{table, zeros}
use Rattle.lists.specs.Bits.{bit}
use Rattle.fips202.specs.Keccak.{Array, ◌⊕◌, rounds_bits}

-- B.1: the bits of a string of bytes, the lowest of each byte first
unfoldable pub bits_of : List ℕ → List ℕ
bits_of [] = []
bits_of (b ∷ bs) = table 8 (λ i. bit i b) ++ bits_of bs

-- 3.1.2 and 3.1.3: a string of 1,600 bits as a state array, and back
abbrev pub array_of : List ℕ → Array
array_of s x y z = get_or s (64 * (5 * y + x) + z) 0

unfoldable pub string_of : Array → List ℕ
string_of A = table 1600 (λ i. A (i / 64 % 5) (i / 320) (i % 64))

-- Algorithm 7: Keccak-p[1600, 24]
unfoldable pub keccak_bits : List ℕ → List ℕ
keccak_bits s = string_of (rounds_bits 24 (array_of s))

-- Algorithm 9: pad10*1(x, m) is 1 || 0^j || 1 with j = (- m - 2) mod x
unfoldable pub pad101 : ℕ → ℕ → List ℕ
pad101 x m = 1 ∷ (zeros ((x - (m + 2) % x) % x) ++ (1 ∷ []))

-- Algorithm 8, step 6: f(S ⊕ (p || 0^c)) for a block p of r bits
unfoldable pub absorb_block_bits : (r : ℕ) (s p : List ℕ) → List ℕ
absorb_block_bits r s p = keccak_bits (table 1600 (λ i. get_or s i 0 ⊕ get_or (p ++ zeros (1600 - r)) i 0))

-- Algorithm 8, steps 5 and 6: S after the first n blocks of p
unfoldable pub absorbed_bits : ℕ → ℕ → List ℕ → List ℕ
absorbed_bits r zero p = zeros 1600
absorbed_bits r (suc n) p = absorb_block_bits r (absorbed_bits r n p) (take r (drop (r * n) p))

-- Algorithm 8, step 10: S after n more permutations
unfoldable pub permuted_bits : ℕ → List ℕ → List ℕ
permuted_bits zero s = s
permuted_bits (suc n) s = keccak_bits (permuted_bits n s)

-- Algorithm 8, steps 7 to 10: Z after n blocks, each Trunc_r(S)
unfoldable pub squeezed_bits : ℕ → ℕ → List ℕ → List ℕ
squeezed_bits r zero s = []
squeezed_bits r (suc n) s = squeezed_bits r n s ++ take r (permuted_bits n s)

-- Algorithm 8: SPONGE[Keccak-p[1600, 24], pad10*1, r](N, d)
unfoldable pub sponge_bits : ℕ → List ℕ → ℕ → List ℕ
sponge_bits r m d =
    let p : List ℕ = m ++ pad101 r (length m) in
    take d (squeezed_bits r (d / r + 1) (absorbed_bits r (length p / r) p))

-- Section 6.2: SHAKE128(M, d) is Keccak[256](M || 1111, d)
unfoldable pub shake128_bits : List ℕ → ℕ → List ℕ
shake128_bits m d = sponge_bits (1600 - 256) (m ++ (1 ∷ 1 ∷ 1 ∷ 1 ∷ [])) d

-- Section 6.2: SHAKE256(M, d) is Keccak[512](M || 1111, d)
unfoldable pub shake256_bits : List ℕ → ℕ → List ℕ
shake256_bits m d = sponge_bits (1600 - 512) (m ++ (1 ∷ 1 ∷ 1 ∷ 1 ∷ [])) d

-- SHAKE128 and SHAKE256 of FIPS 202, section 6.2, on strings of whole bytes.
use Rattle.std.specs.Prelude.{List, [], ◌∷◌, ◌++◌, ℕ, zero, suc, ◌%◌, ◌-◌, length}
use Rattle.lists.specs.Table.{zeros}
use Rattle.shake.specs.Sponge.{absorb, squeeze}

-- B.2, table 6: the suffix 1111 of a SHAKE and pad10*1 as q whole bytes
unfoldable pub padding : ℕ → List ℕ
padding zero = []
padding (suc zero) = 0x9F ∷ []
padding (suc (suc q)) = 0x1F ∷ (zeros q ++ (0x80 ∷ []))

-- M || 1111 || pad10*1(r, ..), which is of whole blocks of r bytes
abbrev pub padded : ℕ → List ℕ → List ℕ
padded r m = m ++ padding (r - length m % r)

-- d bytes of the SHAKE whose rate is r bytes
unfoldable pub shake : ℕ → List ℕ → ℕ → List ℕ
shake r m d = squeeze r (absorb r (padded r m)) d

-- SHAKE128(M, 8 d): the capacity is 256 bits, so the rate is 1,344 bits
unfoldable pub shake128 : List ℕ → ℕ → List ℕ
shake128 m d = shake 168 m d

-- SHAKE256(M, 8 d): the capacity is 512 bits, so the rate is 1,088 bits
unfoldable pub shake256 : List ℕ → ℕ → List ℕ
shake256 m d = shake 136 m d

-- The worked examples of document 01 ("Lanes to try") that are marked with a star, as one table of cases, in its order. Those of the noise
-- are as document 02, No. 1, has them.
use Rattle.std.specs.Prelude.{◌≡◌, List, [], ◌∷◌, ℕ, ◌^◌, ℤ, pos, neg_ℤ}
use Rattle.lists.specs.Table.{zeros}
use Rattle.ring.specs.Ring.{constant, power, product}
use Rattle.ring.specs.Centred.{centred, centred_remainder}
use Rattle.sampling.specs.Noise.{four_bits}
use Rattle.gf128.specs.Bytes as Field

-- a kind of example to a constructor
pub data Example : Type 0 where
  -- X^i × X^j is the constant c
  powers : (i j c : ℕ) → Example
  -- the four bits t give s
  noise : (t : ℕ) (s : ℤ) → Example
  -- the remainder of m by 5 is r
  remainder : (m r : ℤ) → Example
  -- the remainder of the coefficient c is r
  coefficient : (c : ℕ) (r : ℤ) → Example
  -- x^i × x^j in the tag's field is byte c followed by 15 zero bytes
  field : (i j c : ℕ) → Example

abbrev pub Holds : Example → Type 0
Holds (powers i j c) = product (power i) (power j) ≡ constant c
Holds (noise t s) = four_bits t ≡ s
Holds (remainder m r) = centred_remainder m ≡ r
Holds (coefficient c r) = centred_remainder (centred c) ≡ r
Holds (field i j c) = Field.product (Field.bytes 16 (2 ^ i)) (Field.bytes 16 (2 ^ j)) ≡ c ∷ zeros 15

abbrev pub AllHold : List Example → Type 0
AllHold [] = Unit {0}
AllHold (e ∷ es) = Holds e × AllHold es

abbrev pub examples : List Example
examples =
    powers 1023 1 59392
    ∷ powers 512 512 59392
    ∷ noise 0 (pos 0)
    ∷ noise 1 (pos 1)
    ∷ noise 3 (pos 0)
    ∷ noise 4 (pos 1)
    ∷ noise 7 (pos 1)
    ∷ noise 12 (pos 0)
    ∷ noise 15 (pos 0)
    -- the two that document 02 adds
    ∷ noise 10 (pos 1)
    ∷ noise 5 (neg_ℤ (pos 1))
    ∷ remainder (pos 3) (neg_ℤ (pos 2))
    ∷ remainder (neg_ℤ (pos 3)) (pos 2)
    ∷ remainder (pos 20482) (pos 2)
    ∷ remainder (pos 29696) (pos 1)
    ∷ remainder (neg_ℤ (pos 29696)) (neg_ℤ (pos 1))
    -- of "False starts"
    ∷ coefficient 59392 (neg_ℤ (pos 1))
    ∷ field 127 1 135
    ∷ []

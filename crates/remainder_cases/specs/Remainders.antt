-- Remainders of centred words, with the quotients by 5.
use Rattle.std.specs.Prelude.{Bool, false, ◌&&◌, cond, List, ℕ, ◌-◌, eqb, ltb, ℤ, pos, negsuc}
use Rattle.ring.specs.Centred.{centred, centred_remainder, centred_quotient}
use Rattle.vectors.specs.Fields.{word32, field}

-- the integer that a word of four bytes stands for in two's complement
unfoldable pub signed : ℕ → ℤ
signed x = cond (ltb x 2147483648) (pos x) (negsuc (4294967295 - x))

-- whether two integers are the same
unfoldable pub is_same_integer : (a b : ℤ) → Bool
is_same_integer (pos a) (pos b) = eqb a b
is_same_integer (pos a) (negsuc b) = false
is_same_integer (negsuc a) (pos b) = false
is_same_integer (negsuc a) (negsuc b) = eqb a b

-- the centred value of a word is m, of which the remainder by 5 is r and the quotient k
abbrev pub integers_agree : (w m r k : ℕ) → Bool
integers_agree w m r k =
    is_same_integer (centred w) (signed m)
    && is_same_integer (centred_remainder (centred w)) (signed r)
    && is_same_integer (centred_quotient (centred w)) (signed k)

abbrev pub remainder_agrees : List ℕ → Bool
remainder_agrees text =
    ltb (word32 (field 0 text)) 65536
    && (eqb (word32 (field 1 text)) 0
    && integers_agree (word32 (field 0 text)) (word32 (field 3 text)) (word32 (field 4 text)) (word32 (field 5 text)))

-- Hexadecimal text as ASCII bytes.
use Rattle.std.specs.Prelude.{Bool, cond, ◌&&◌, List, [], ◌∷◌, ◌++◌, ℕ, ◌+◌, ◌-◌, ◌*◌, ◌/◌, ◌%◌, ltb, leb, length, take, drop}
use Rattle.lists.specs.First.{first_failing}

-- the lowercase digit of a number below 16: `0` to `9`, then `a` to `f`
abbrev pub digit_of : ℕ → ℕ
digit_of n = cond (ltb n 10) (48 + n) (87 + n)

-- c is one of the numbers from low to high
abbrev pub within : ℕ → ℕ → ℕ → Bool
within low high c = leb low c && leb c high

-- the value of a digit, `0` to `9`, `a` to `f` or `A` to `F`; 16 for any other byte
abbrev pub value_of : ℕ → ℕ
value_of c =
    cond (within 48 57 c) (c - 48)
    (cond (within 97 102 c) (c - 87)
    (cond (within 65 70 c) (c - 55)
    16))

abbrev pub is_digit : ℕ → Bool
is_digit c = ltb (value_of c) 16

-- the text of bytes: two digits a byte, the high four bits first
unfoldable pub text_of : List ℕ → List ℕ
text_of [] = []
text_of (b ∷ bs) = digit_of (b / 16) ∷ digit_of (b % 16) ∷ text_of bs

-- the bytes of a text of digits, one for each pair; an odd last digit gives none
unfoldable pub bytes_of : List ℕ → List ℕ
bytes_of [] = []
bytes_of (h ∷ []) = []
bytes_of (h ∷ l ∷ text) = (16 * value_of h + value_of l) ∷ bytes_of text

-- the bytes of the whole pairs of digits that any text starts with
abbrev pub decoded : List ℕ → List ℕ
decoded text = take (first_failing is_digit text / 2) (bytes_of text)

-- a buffer into which s is written from the front, as far as there is room; the rest stays as it came
abbrev pub written : (s out : List ℕ) → List ℕ
written s out = take (length out) s ++ drop (length s) out

-- What the program prints.
use Rattle.std.specs.Prelude.{cond, List, [], ◌∷◌, ◌++◌, ℕ, leb, length}
use Rattle.shake.specs.Shake.{shake256}
use Rattle.hexadecimal.specs.Hex.{text_of}

-- the first 32 bytes of SHAKE256 of the message in hexadecimal, and a line feed
unfoldable pub line_of : (message : List ℕ) → List ℕ
line_of message = text_of (shake256 message 32) ++ (10 ∷ [])

-- "shake256sum: the input is longer than 1048576 bytes" and a line feed
abbrev pub too_long : List ℕ
too_long =
    115 ∷ 104 ∷ 97 ∷ 107 ∷ 101 ∷ 50 ∷ 53 ∷ 54 ∷ 115 ∷ 117 ∷ 109 ∷ 58 ∷ 32 ∷
    116 ∷ 104 ∷ 101 ∷ 32 ∷
    105 ∷ 110 ∷ 112 ∷ 117 ∷ 116 ∷ 32 ∷
    105 ∷ 115 ∷ 32 ∷
    108 ∷ 111 ∷ 110 ∷ 103 ∷ 101 ∷ 114 ∷ 32 ∷
    116 ∷ 104 ∷ 97 ∷ 110 ∷ 32 ∷
    49 ∷ 48 ∷ 52 ∷ 56 ∷ 53 ∷ 55 ∷ 54 ∷ 32 ∷
    98 ∷ 121 ∷ 116 ∷ 101 ∷ 115 ∷ 10 ∷ []

-- the input has at most 1,048,576 bytes
unfoldable pub standard_output : (input : List ℕ) → List ℕ
standard_output input = cond (leb (length input) 1048576) (line_of input) []

unfoldable pub standard_error : (input : List ℕ) → List ℕ
standard_error input = cond (leb (length input) 1048576) [] too_long

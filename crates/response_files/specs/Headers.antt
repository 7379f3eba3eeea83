-- The lines before the first case: comments, headers and blank lines.
use Rattle.std.specs.Prelude.{Bool, cond, ◌&&◌, ◌||◌, List, [], ◌∷◌, ℕ, ◌-◌, eqb, length, get_or, take, Option, unwrap_or}
use Rattle.response_files.specs.Lines.{line_of, value_of, is_blank, lines}
use Rattle.response_files.specs.Fields.{decimal_of, whole_bytes}

-- a comment starts with `#`, a header stands in brackets
unfoldable pub is_remark : List ℕ → Bool
is_remark line = eqb (get_or line 0 0) 35 || (eqb (get_or line 0 0) 91 && eqb (get_or line (length line - 1) 0) 93)

-- the first line belongs to the preamble
unfoldable pub is_preamble : List ℕ → Bool
is_preamble text = is_blank text || is_remark (line_of text)

-- the length in bits that a header of this name gives, in bytes; its last byte is the bracket
abbrev pub length_header : (name text : List ℕ) → Option ℕ
length_header name text = whole_bytes (decimal_of (take (length (value_of name text) - 1) (value_of name text)))

-- the text from the first of its lines on that is not of the preamble
unfoldable pub body_from : List (List ℕ) → List ℕ
body_from [] = []
body_from (line ∷ rest) = cond (is_preamble line) (body_from rest) line

abbrev pub body : List ℕ → List ℕ
body text = body_from (lines text)

-- the length that the last header of this name gives in the preamble; `number` where none does
unfoldable pub number_from : (name : List ℕ) (number : ℕ) (lines : List (List ℕ)) → ℕ
number_from name number [] = number
number_from name number (line ∷ rest) =
    cond (is_preamble line) (number_from name (unwrap_or (length_header name line) number) rest) number

abbrev pub header_number : (name text : List ℕ) → ℕ
header_number name text = number_from name 0 (lines text)

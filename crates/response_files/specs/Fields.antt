-- What the lines of a case hold: numbers in decimal, and bytes in hexadecimal.
use Rattle.std.specs.Prelude.{Bool, false, cond, ◌&&◌, List, [], ◌∷◌, ℕ, ◌+◌, ◌-◌, ◌*◌, ◌/◌, ◌%◌, ltb, leb, eqb, length, Option, Some, None}
use Rattle.lists.specs.First.{first_failing}
use Rattle.hexadecimal.specs.Hex.{is_digit}
use Rattle.response_files.specs.Lines.{value_of}

-- a digit may follow the number n: `0` to `9`, and n is small
abbrev pub grows : (n c : ℕ) → Bool
grows n c = leb 48 c && leb c 57 && ltb n 100000000

-- the number n, continued by the digits of a text
unfoldable pub continued : (n : ℕ) (text : List ℕ) → Option ℕ
continued n [] = Some n
continued n (c ∷ text) = cond (grows n c) (continued (10 * n + (c - 48)) text) None

-- the number that a text of digits spells, below 1,000,000,000; None for any other text
unfoldable pub decimal_of : List ℕ → Option ℕ
decimal_of [] = None
decimal_of (c ∷ text) = continued 0 (c ∷ text)

-- a length in bits as whole bytes
abbrev pub whole_bytes : Option ℕ → Option ℕ
whole_bytes (Some n) = cond (eqb (n % 8) 0) (Some (n / 8)) None
whole_bytes None = None

-- the length in bits that the first line gives under a name, in bytes
abbrev pub length_field : (name text : List ℕ) → Option ℕ
length_field name text = whole_bytes (decimal_of (value_of name text))

abbrev pub is_number : (count : ℕ) → Option ℕ → Bool
is_number count (Some n) = eqb n count
is_number count None = false

-- `COUNT = `
abbrev pub count_name : List ℕ
count_name = 67 ∷ 79 ∷ 85 ∷ 78 ∷ 84 ∷ 32 ∷ 61 ∷ 32 ∷ []

-- the first line gives this count
abbrev pub is_count : (count : ℕ) (text : List ℕ) → Bool
is_count count text = is_number count (decimal_of (value_of count_name text))

-- the text is size bytes in hexadecimal, one or more, for which there is room, and nothing else
unfoldable pub is_hex : (room size : ℕ) (text : List ℕ) → Bool
is_hex room size text =
    ltb 0 size && leb size room && eqb (length text) (2 * size) && eqb (first_failing is_digit text) (length text)

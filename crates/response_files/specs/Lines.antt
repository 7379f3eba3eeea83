-- The lines of a response file: each ends with a line feed, before which a carriage return may stand.
use Rattle.std.specs.Prelude.{Bool, cond, not, ◌&&◌, List, [], ◌∷◌, ℕ, suc, ◌+◌, ◌-◌, ltb, eqb, length, get_or, take, drop, bytes_eq}
use Rattle.lists.specs.First.{first_failing}

-- c is no line feed
abbrev pub in_line : ℕ → Bool
in_line c = not (eqb c 10)

-- what stands behind the first line
unfoldable pub after_line : List ℕ → List ℕ
after_line text = drop (first_failing in_line text + 1) text

-- a line without a carriage return at its end
unfoldable pub without_return : List ℕ → List ℕ
without_return l = cond (eqb (get_or l (length l - 1) 0) 13) (take (length l - 1) l) l

-- the first line without its end; nothing where no line feed follows
unfoldable pub line_of : List ℕ → List ℕ
line_of text =
    cond (ltb (first_failing in_line text) (length text)) (without_return (take (first_failing in_line text) text)) []

-- two lists are equal
abbrev pub same : (a b : List ℕ) → Bool
same a b = bytes_eq a b

abbrev pub starts_with : (prefix text : List ℕ) → Bool
starts_with prefix text = same (take (length prefix) text) prefix

-- what follows the name in the first line; nothing where the line does not start with the name
unfoldable pub value_of : (name text : List ℕ) → List ℕ
value_of name text = cond (starts_with name (line_of text)) (drop (length name) (line_of text)) []

-- the first line ends, and has nothing before its end
unfoldable pub is_blank : List ℕ → Bool
is_blank text = ltb (first_failing in_line text) (length text) && eqb (length (line_of text)) 0

-- ---- all lines of a text, each as the text from its start on

-- the lines behind the first
unfoldable pub lines_after : List ℕ → List (List ℕ)
lines_after [] = []
lines_after (c ∷ []) = []
lines_after (c ∷ d ∷ text) = cond (in_line c) (lines_after (d ∷ text)) ((d ∷ text) ∷ lines_after (d ∷ text))

-- every line; the last may have no line feed
unfoldable pub lines : List ℕ → List (List ℕ)
lines [] = []
lines (c ∷ text) = (c ∷ text) ∷ lines_after (c ∷ text)

-- ---- where a line stands

-- how many line feeds a text has
unfoldable pub feeds : List ℕ → ℕ
feeds [] = 0
feeds (c ∷ text) = cond (in_line c) (feeds text) (suc (feeds text))

-- the number of the line, counted from 1, at which so many bytes of the text are left
unfoldable pub line_at : (left : ℕ) (text : List ℕ) → ℕ
line_at left text = 1 + feeds (take (length text - left) text)

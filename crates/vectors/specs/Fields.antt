-- Files of test vectors: fields one behind the other. Each is the length of its bytes, as a word of four bytes, and then the bytes. Words
-- have their low byte first. Every definition takes any text; in a word, bytes past the end of the text count as zero.
use Rattle.std.specs.Prelude.{Bool, true, ◌&&◌, cond, List, [], ◌∷◌, ℕ, zero, suc, ◌+◌, ◌*◌, min, leb, ltb, eqb, length, get_or, take, drop}

-- the word that a text starts with; of a field's bytes, the number that it holds
abbrev pub word32 : List ℕ → ℕ
word32 text = get_or text 0 0 + 256 * get_or text 1 0 + 65536 * get_or text 2 0 + 16777216 * get_or text 3 0

-- where the field that starts at a place ends, by its length
abbrev pub end_from : ℕ → List ℕ → ℕ
end_from at text = at + 4 + word32 (drop at text)

-- where field i starts, counted from 0; the end of the text where a field before it is not whole
unfoldable pub start : ℕ → List ℕ → ℕ
start zero text = 0
start (suc i) text = min (end_from (start i text) text) (length text)

-- the bytes of field i, as far as the text goes
unfoldable pub field : ℕ → List ℕ → List ℕ
field i text = take (word32 (drop (start i text) text)) (drop (start i text + 4) text)

-- whether field i stands whole in the text, as then every field before it does
unfoldable pub has_field : ℕ → List ℕ → Bool
has_field i text = leb (end_from (start i text) text) (length text)

-- whether the text has whole fields of these sizes, from field i on
unfoldable pub sized_from : (i : ℕ) (sizes text : List ℕ) → Bool
sized_from i [] text = true
sized_from i (size ∷ sizes) text = has_field i text && eqb (length (field i text)) size && sized_from (suc i) sizes text

-- whether the text starts with whole fields of these sizes
abbrev pub is_sized : (sizes text : List ℕ) → Bool
is_sized sizes text = sized_from 0 sizes text

-- ---- cases: so many fields each, one case behind the other

-- where the case ends that starts at a place
abbrev pub after_case : (fields at : ℕ) (text : List ℕ) → ℕ
after_case fields at text = at + start fields (drop at text)

-- where the cases start, from a place on, as far as the text goes; at most so many
unfoldable pub places_from : (most fields at : ℕ) (text : List ℕ) → List ℕ
places_from zero fields at text = []
places_from (suc most) fields at text = cond (ltb at (length text)) (at ∷ places_from most fields (after_case fields at text) text) []

-- where the cases of a text start; it has no more cases than bytes
abbrev pub places : (fields : ℕ) (text : List ℕ) → List ℕ
places fields text = places_from (length text) fields 0 text

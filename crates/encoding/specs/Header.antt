-- The front of a record: a mark of three bytes, then the version, 16 bits, little-endian.
use Rattle.std.specs.Prelude.{Bool, ◌&&◌, List, [], ◌∷◌, ℕ, ◌+◌, ◌*◌, ◌/◌, ◌%◌, eqb, leb, length, get_or}

-- the first three bytes are this mark; not so where there are fewer
unfoldable pub has_mark : (mark bytes : List ℕ) → Bool
has_mark mark bytes =
    leb 3 (length bytes) && eqb (get_or bytes 0 0) (get_or mark 0 0) && eqb (get_or bytes 1 0) (get_or mark 1 0) && eqb (get_or bytes 2 0) (get_or mark 2 0)

-- a missing byte counts as 0
unfoldable pub version_of : List ℕ → ℕ
version_of bytes = get_or bytes 3 0 + 256 * get_or bytes 4 0

-- how many bytes these are
abbrev pub header_length : ℕ
header_length = 5

unfoldable pub header : (mark : List ℕ) (version : ℕ) → List ℕ
header mark version = get_or mark 0 0 ∷ get_or mark 1 0 ∷ get_or mark 2 0 ∷ version % 256 ∷ version / 256 % 256 ∷ []

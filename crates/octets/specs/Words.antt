-- Words of 64 bits as bytes, the lowest first.
use Rattle.std.specs.Prelude.{List, ℕ, ◌+◌, ◌*◌, ◌^◌, get_or}

-- eight bytes as a word
abbrev pub join8 : (b0 b1 b2 b3 b4 b5 b6 b7 : ℕ) → ℕ
join8 b0 b1 b2 b3 b4 b5 b6 b7 =
    b0 + b1 * 2 ^ 8 + b2 * 2 ^ 16 + b3 * 2 ^ 24 + b4 * 2 ^ 32 + b5 * 2 ^ 40 + b6 * 2 ^ 48 + b7 * 2 ^ 56

-- the word of the eight bytes from a place on
abbrev pub word64_at : (b : List ℕ) (at : ℕ) → ℕ
word64_at b at =
    join8
    (get_or b at 0)
    (get_or b (at + 1) 0)
    (get_or b (at + 2) 0)
    (get_or b (at + 3) 0)
    (get_or b (at + 4) 0)
    (get_or b (at + 5) 0)
    (get_or b (at + 6) 0)
    (get_or b (at + 7) 0)

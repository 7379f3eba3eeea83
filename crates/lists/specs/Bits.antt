-- The binary digits of a number.
use Rattle.std.specs.Prelude.{ℕ, ◌/◌, ◌%◌, ◌^◌}

-- bit z of v, 0 or 1; bit 0 is the lowest
abbrev pub bit : ℕ → ℕ → ℕ
bit z v = v / 2 ^ z % 2

-- What the private steps of the product keep: an element as two words.
use Rattle.std.specs.Prelude.{ℕ, ◌+◌, ◌*◌, ◌^◌}
use Rattle.std.specs.Int.Bits.{bit_xor}
use Rattle.lists.specs.Bits.{bit}
use Rattle.gf128.specs.Field.{modulus}
use Rattle.gf128.specs.declared.Element.{Element}

-- the number of an element
abbrev pub value : Element → ℕ
value e = e.hi * 2 ^ 64 + e.lo

-- x × v in the field
unfoldable pub times_x : ℕ → ℕ
times_x v = bit_xor (2 * v) (bit 127 v * modulus)

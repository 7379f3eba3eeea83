-- States as strings of whole bytes, FIPS 202, section 3.1.3 and B.1. A byte's lowest bit comes first.
use Rattle.std.specs.Prelude.{List, ℕ, ◌*◌, ◌/◌, ◌%◌, ◌^◌}
use Rattle.lists.specs.Table.{table}
use Rattle.keccak_steps.specs.Steps.{State, lane}

-- byte j of a lane
abbrev pub lane_byte : ℕ → ℕ → ℕ
lane_byte v j = v / 2 ^ (8 * j) % 256

-- byte p of a state's string
abbrev pub byte_of : State → ℕ → ℕ
byte_of s p = lane_byte (lane s (p / 8 % 5) (p / 40)) (p % 8)

-- the string of a state
unfoldable pub bytes_of : State → List ℕ
bytes_of s = table 200 (byte_of s)

-- Strings of whole bytes as states, FIPS 202, section 3.1.2 and B.1. A byte's lowest bit comes first.
use Rattle.std.specs.Prelude.{List, ℕ, ◌+◌, ◌*◌}
use Rattle.octets.specs.Words.{word64_at}
use Rattle.keccak_steps.specs.Steps.{State, state}

-- lane k of a string
abbrev pub word : (b : List ℕ) (k : ℕ) → ℕ
word b k = word64_at b (8 * k)

-- the state of a string of 200 bytes; lane (x, y) is the string's lane 5 y + x
abbrev pub state_of : List ℕ → State
state_of b = state (λ x y. word b (5 * y + x))

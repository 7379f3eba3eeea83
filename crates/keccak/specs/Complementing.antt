-- Rounds on a state whose six lanes are held complemented.
use Rattle.std.specs.Prelude.{ℕ}
use Rattle.keccak_steps.specs.Steps.{State}
use Rattle.keccak_chi.specs.Complementing.{marks, complemented_by}
use Rattle.keccak.specs.Keccak.{round}

-- the six lanes complemented
unfoldable pub complemented : State → State
complemented a = complemented_by marks a

-- Rnd, complemented before and after
unfoldable pub complemented_round : ℕ → State → State
complemented_round ir a = complemented (round ir (complemented a))

-- When a triple is well formed ("What the desk says").
use Rattle.std.specs.Prelude.{◌≡◌, List, ℕ, length}
use Rattle.ring.specs.Ring.{n}
use Rattle.encoding.specs.Codes.{first_invalid_code}
use Rattle.records.specs.Layout.{triple_length}
use Rattle.triples.specs.Triple.{r_part, e1_part, e2_part}

-- no code is 3
pub record WellFormedTriple (t : List ℕ) : Type 0 where
  pub size : length t ≡ triple_length
  pub r-codes : first_invalid_code (r_part t) ≡ n
  pub e1-codes : first_invalid_code (e1_part t) ≡ n
  pub e2-codes : first_invalid_code (e2_part t) ≡ n

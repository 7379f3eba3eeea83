-- The desk's line has a line feed at its end.
use mathlib.Core.List.{List, [], ◌∷◌, ◌++◌}
use Prim.Native.Nat.{ℕ, ◌<◌}
use native.Mathlib.Omega.{arith}
use lib.ListN.{length, length-append}
use Rattle.answers.specs.Answers.{number}
use Rattle.answer_line.specs.Line.{shown}
use Rattle.desk_opening.specs.Input.{desk_answer, desk_entry}
use Rattle.desk_line.specs.Line.{desk_line}
use Rattle.text.specs.Text.{decimal}

pub line-some : (input : List ℕ) → 0 < length (desk_line input)
unfolding desk_line
line-some input =
    omega (arith, length-append (decimal (number (desk_answer input)) ++ (32 ∷ []) ++ shown (desk_answer input) (desk_entry input)) (10 ∷ []))

-- The line of the desk program (document 01, "The desk program"), as ASCII bytes.
use Rattle.std.specs.Prelude.{List, ℕ}
use Rattle.answers.specs.Answers.{number}
use Rattle.answer_line.specs.Line.{shown, line_of}
use Rattle.desk_opening.specs.Input.{desk_answer, desk_entry}

unfoldable pub desk_line : List ℕ → List ℕ
desk_line input = line_of (number (desk_answer input)) (shown (desk_answer input) (desk_entry input))

-- The line of a refusal, as ASCII bytes.
use Rattle.std.specs.Prelude.{List, [], ◌∷◌, ◌++◌, ℕ, Ok, Err}
use Rattle.text.specs.Text.{decimal}
use Rattle.answers.specs.Answers.{refusal_number, Answer}

-- the number and a line feed; nothing under Done
abbrev pub refusal_line : Answer → List ℕ
refusal_line (Ok _) = []
refusal_line (Err r) = decimal (refusal_number r) ++ (10 ∷ [])

-- The line of an answer, as ASCII bytes.
use Rattle.std.specs.Prelude.{List, [], ◌∷◌, ◌++◌, ℕ, Result, Ok, Err}
use Rattle.hexadecimal.specs.Hex.{text_of}
use Rattle.text.specs.Text.{decimal}
use Rattle.answers.specs.declared.Refusal.{Refusal}
use Rattle.answers.specs.Answers.{refusal_number, Answer}

-- the entry in hexadecimal, or "-"
abbrev pub shown : Answer → List ℕ → List ℕ
shown (Ok _) entry = text_of entry
shown (Err r) entry = 45 ∷ []

-- the number, a space, a text and a line feed
abbrev pub line_of : (n : ℕ) (text : List ℕ) → List ℕ
line_of n text = decimal n ++ (32 ∷ []) ++ text ++ (10 ∷ [])

-- of what was opened
abbrev pub opened_line : Result (List ℕ) Refusal → List ℕ
opened_line (Ok entry) = line_of 0 (text_of entry)
opened_line (Err r) = line_of (refusal_number r) (45 ∷ [])

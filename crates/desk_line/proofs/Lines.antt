-- The desk's line by its answer.
use mathlib.Core.Path.{◌≡◌, refl, sym, ap₂}
use mathlib.Core.Bool.{true}
use mathlib.Core.List.{List, [], ◌∷◌}
use Prim.Native.Nat.{ℕ}
use native.Mathlib.Omega.{arith}
use lib.ListN.{length}
use borrow.Author.Tests.{ne_eqb}
use Rattle.text.specs.Text.{digits_of}
use Rattle.encoding.specs.Header.{has_mark, version_of}
use Rattle.answers.specs.Answers.{number, and_then, Answer}
use Rattle.records.specs.Layout.{secret_key_mark, secret_key_version}
use Rattle.std.specs.Prelude.{Ok}
use Rattle.answer_line.specs.Line.{shown, line_of, opened_line}
use Rattle.answer_line.proofs.Lines.{line_by}
use Rattle.desk_opening.specs.Input.{key_part, desk_answer, desk_entry}
use Rattle.desk_opening.proofs.Answers.{answer_by_length, other_version}
use Rattle.desk_line.specs.Line.{desk_line}

-- what was opened, in a line
pub opened_in_line : (input : List ℕ) → opened_line (and_then (desk_answer input) (Ok (desk_entry input))) ≡ desk_line input
unfolding desk_line
opened_in_line input = line_by (desk_answer input) (desk_entry input)

pub line_by-answer : (input : List ℕ) {answer : Answer} {entry : List ℕ} → answer ≡ desk_answer input → entry ≡ desk_entry input
    → desk_line input ≡ line_of (number answer) (shown answer entry)
unfolding desk_line
line_by-answer input a e = ap₂ (λ (x : Answer) (y : List ℕ). line_of (number x) (shown x y)) (sym a) (sym e)

-- input that is shorter or longer, as empty input is, prints "1 -"
pub other_length_line : (input : List ℕ) → ¬ (length input ≡ 10026) → desk_line input ≡ line_of 1 (45 ∷ [])
other_length_line input h = line_by-answer input (sym (answer_by_length input (ne_eqb (length input) 10026 h))) refl

-- a key of another version, as of version 2, prints "3 -"
pub other_version_line : (input : List ℕ) → length input ≡ 10026 → has_mark secret_key_mark (key_part input) ≡ true
    → ¬ (version_of (key_part input) ≡ secret_key_version) → desk_line input ≡ line_of 3 (45 ∷ [])
other_version_line input size mark other = line_by-answer input (sym (other_version input size mark other)) refl

pub empty_line : desk_line [] ≡ 49 ∷ 32 ∷ 45 ∷ 10 ∷ []
unfolding digits_of
empty_line = other_length_line [] (λ e. absurd (omega arith))

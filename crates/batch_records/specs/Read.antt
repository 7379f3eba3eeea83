-- The count of a batch and its length: what is answered by them, and the body that they leave.
use Rattle.std.specs.Prelude.{Bool, ◌&&◌, cond, ℕ, ◌*◌, eqb}
use Rattle.answers.specs.declared.Refusal.TheVariants.{WrongLength, WrongCount}
use Rattle.answers.specs.Answers.{unless, Answer, Done}
use Rattle.batch_records.specs.Batches.{batch_length, is_count}

-- 12, then 1
abbrev pub count_answer : (m size : ℕ) → Answer
count_answer m size = unless (is_count m) WrongCount (unless (eqb size (batch_length m)) WrongLength Done)

-- the count is one, and the length fits it
abbrev pub is_held : (m size : ℕ) → Bool
is_held m size = is_count m && eqb size (batch_length m)

-- no body where they do not
abbrev pub body_length : (m size : ℕ) → ℕ
body_length m size = cond (is_held m size) (16 * m) 0

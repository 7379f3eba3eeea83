-- When what opening a batch does agrees with what a case tells. The fields of a case are key, batch, dummy noise, the length of the output,
-- number, location, count, and entries.
use Rattle.std.specs.Prelude.{Bool, ◌&&◌, cond, List, ℕ, ◌*◌, eqb, length, take, drop, Result, Ok, Err}
use Rattle.batch_calls.specs.Calls.{open_batch_answer, open_batch_out}
use Rattle.vectors.specs.Fields.{word32, field}
use Rattle.vectors.specs.Answers.{is_same}
use Rattle.case_outputs.specs.Outputs.{filled, answer_told}
use Rattle.answers.specs.declared.Refusal.{Refusal}
use Rattle.answers.specs.Answers.{and_then, Done}
use Rattle.batch_records.specs.Batches.{count_of}

-- under 0: the count is the one that is told, and the output starts with the entries that are told, 16 bytes each, and goes on as it was
-- before the call
unfoldable pub is_shown : (text : List ℕ) (count : ℕ) (after : List ℕ) → Bool
is_shown text count after =
    eqb count (word32 (field 6 text))
    && is_same (take (16 * count) after) (field 7 text)
    && is_same (drop (16 * count) after) (filled (drop (16 * count) after))

-- under any other number: neither count nor entries are told, the count is 0, and the output is as it was
unfoldable pub is_kept : (text : List ℕ) (count : ℕ) (after : List ℕ) → Bool
is_kept text count after =
    eqb (length (field 6 text)) 0 && eqb (length (field 7 text)) 0 && eqb count 0 && is_same after (filled after)

-- count and output, by the number that is told
abbrev pub entries_agree : (text : List ℕ) (count : ℕ) (after : List ℕ) → Bool
entries_agree text count after = cond (eqb (word32 (field 4 text)) 0) (is_shown text count after) (is_kept text count after)

-- answer, count and output are what is told
unfoldable pub opened_agrees : (text : List ℕ) (opened : Result ℕ Refusal) (after : List ℕ) → Bool
opened_agrees text (Ok count) after = answer_told Done (word32 (field 4 text)) (field 5 text) && entries_agree text count after
opened_agrees text (Err r) after = answer_told (Err r) (word32 (field 4 text)) (field 5 text) && entries_agree text 0 after

-- the output after the call, where it holds `out` before it
unfoldable pub open_batch_after : (text out : List ℕ) → List ℕ
open_batch_after text out = open_batch_out (field 0 text) (field 1 text) (field 2 text) out

unfoldable pub open_batch_agrees : (text out : List ℕ) → Bool
open_batch_agrees text out =
    opened_agrees text (and_then (open_batch_answer (field 0 text) (field 1 text) (field 2 text) (length out)) (Ok (count_of (field 1 text))))
    (open_batch_after text out)

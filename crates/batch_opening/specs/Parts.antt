-- What the private functions of src/lib.rt answer and write, over the bytes of a key, and of a batch and noise that fit.
use Rattle.std.specs.Prelude.{List, ℕ}
use Rattle.answers.specs.Answers.{on_done, Answer}
use Rattle.batch_records.specs.Batches.{batch_body, batch_tag, tagged_blocks, batch_answer}
use Rattle.secret_keys.specs.SecretKeys.{secret_answer}
use Rattle.calls.specs.Calls.{opened_entry}
use Rattle.batch_calls.specs.Calls.{batch_outcome, in_front}
use Rattle.recovery.specs.Outcomes.{opened_by}

abbrev pub entries_answer : (key batch noise : List ℕ) → Answer
entries_answer k batch noise = opened_by (secret_answer k) (batch_answer batch) (batch_outcome k batch noise) (tagged_blocks batch) (batch_tag batch)

abbrev pub shown_entries : (key batch noise out : List ℕ) → List ℕ
shown_entries k batch noise out =
    on_done (entries_answer k batch noise) (in_front (opened_entry (batch_outcome k batch noise) (batch_body batch)) out) out

-- Demand 3 of opening a batch.
use mathlib.Core.Path.{◌≡◌, ap, ◌∙◌}
use mathlib.Core.List.{List}
use Prim.Native.Nat.{ℕ}
use native.Mathlib.Omega.{arith}
use lib.ListN.{length}
use Rattle.scheme.specs.Scheme.{Outcome}
use Rattle.answers.specs.declared.Refusal.TheVariants.{WrongLength}
use Rattle.answers.specs.Answers.{number, on_done, Answer}
use Rattle.answers.specs.Locations.{code}
use Rattle.answers.proofs.AnswerLaws.{number-done, unless_passed, then_passed, on_done_lem, on_refusal}
use Rattle.records.specs.Records.{first_of, second_of}
use Rattle.batch_records.specs.Batches.{entries_length, count_of, batch_body, batch_tag, tagged_blocks}
use Rattle.batch_records.specs.WellFormed.{WellFormedBatch}
use Rattle.secret_keys.specs.SecretKeys.{elements_of}
use Rattle.keys.specs.Keys.{triple_noise_length, noise_triple}
use Rattle.calls.specs.Calls.{opened_answer, opened_entry}
use Rattle.calls.specs.Promises.{Accepted}
use Rattle.calls.proofs.CheckExact.{accepted-size, accepted-done}
use Rattle.calls.proofs.Outcomes.{noise-ternary, accepted-sound, accepted-a, accepted-b, outcome_free}
use Rattle.calls.proofs.OpenExact.{opened_plain, opened}
use Rattle.batch_calls.specs.Calls.{batch_outcome, open_batch_answer, in_front, open_batch_out, open_batch_count}
use Rattle.batch_calls.specs.Promises.{OpenedBatch, OpenBatchExact}
use Rattle.batch_calls.proofs.Lengths.{opening-fits}
use Rattle.batch_calls.proofs.BatchDone.{batch-done}

module _ (k batch before : List ℕ) (lent : ℕ) (accepted : Accepted k) (wb : WellFormedBatch batch) (room : length before ≡ entries_length) where
  -- ---- what is said and written, by what is found

  abbrev says : Outcome → Answer
  says o = opened_answer o (tagged_blocks batch) (batch_tag batch)

  abbrev writing : Outcome → List ℕ
  writing o = on_done (says o) (in_front (opened_entry o (batch_body batch)) before) before

  abbrev counting : Outcome → ℕ
  counting o = on_done (says o) (count_of batch) lent

  -- every check passes, so the outcome decides
  decides : (noise : List ℕ) → length noise ≡ triple_noise_length → open_batch_answer k batch noise (length before) ≡ says (batch_outcome k batch noise)
  unfolding open_batch_answer
  decides noise size =
      unless_passed WrongLength _
      ((opening-fits k batch noise (length before)).1 (accepted-size k accepted, omega (arith, wb.size), size, room))
      ∙ then_passed _ (accepted-done k accepted)
      ∙ then_passed _ ((batch-done batch).1 wb)

  writes : (noise : List ℕ) → length noise ≡ triple_noise_length → open_batch_out k batch noise before ≡ writing (batch_outcome k batch noise)
  unfolding open_batch_out
  writes noise size =
      ap (λ (a : Answer). on_done a (in_front (opened_entry (batch_outcome k batch noise) (batch_body batch)) before) before) (decides noise size)

  counts : (noise : List ℕ) → length noise ≡ triple_noise_length
      → open_batch_count k batch noise (length before) lent ≡ counting (batch_outcome k batch noise)
  unfolding open_batch_count
  counts noise size = ap (λ (a : Answer). on_done a (count_of batch) lent) (decides noise size)

  -- ---- exactly

  -- under another dummy the same is found
  same_outcome : (noise other : List ℕ) → batch_outcome k batch other ≡ batch_outcome k batch noise
  same_outcome noise other =
      outcome_free (elements_of k) (first_of batch) (second_of batch) (noise_triple noise) (accepted-sound k accepted)
      wb.front.first-words wb.front.second-words (noise-ternary noise) (noise_triple other) (noise-ternary other)

  -- whatever the dummy, a key that is accepted opens a well-formed batch as demand 3 says
  exactly : (noise : List ℕ) → length noise ≡ triple_noise_length
      → OpenedBatch k batch before lent (number (open_batch_answer k batch noise (length before))) (open_batch_out k batch noise before)
      (open_batch_count k batch noise (length before) lent)
  exactly noise size = rw (decides noise size, writes noise size, counts noise size) by-outcome
    where
      o : Outcome
      o = batch_outcome k batch noise

      by-outcome : OpenedBatch k batch before lent (number (says o)) (writing o) (counting o)
      by-outcome = record {
        exact = rw (accepted-a k accepted, accepted-b k accepted) (opened (elements_of k) (first_of batch) (second_of batch) (tagged_blocks batch) (batch_body batch) (batch_tag batch) before
            (λ x. in_front x before) (noise_triple noise) (accepted-sound k accepted) wb.front.first-words wb.front.second-words (noise-ternary noise));
        counts = λ zero. on_done_lem (count_of batch) lent ((number-done (says o)).0 zero);
        kept = λ refused. on_refusal (says o) (count_of batch) lent refused;
        dummy_free = λ other h.
            let same = same_outcome noise other in
            (ap number (decides other h ∙ ap says same), writes other h ∙ ap writing same, counts other h ∙ ap counting same);
      }

  -- no word is named, so the code is the number
  plain : (noise : List ℕ) → length noise ≡ triple_noise_length
      → code (open_batch_answer k batch noise (length before)) ≡ number (open_batch_answer k batch noise (length before))
  plain noise size = rw (decides noise size) (opened_plain (batch_outcome k batch noise) (tagged_blocks batch) (batch_tag batch))

pub open-batch-exact : (k batch noise before : List ℕ) (lent : ℕ)
    → OpenBatchExact k batch noise before lent (number (open_batch_answer k batch noise (length before))) (open_batch_out k batch noise before)
    (open_batch_count k batch noise (length before) lent)
open-batch-exact k batch noise before lent accepted wb size room = exactly k batch before lent accepted wb room noise size

pub open-batch-exact-code : (k batch noise before : List ℕ) (lent : ℕ)
    → OpenBatchExact k batch noise before lent (code (open_batch_answer k batch noise (length before))) (open_batch_out k batch noise before)
    (open_batch_count k batch noise (length before) lent)
open-batch-exact-code k batch noise before lent accepted wb size room =
    rw (plain k batch before lent accepted wb room noise size) (open-batch-exact k batch noise before lent accepted wb size room)

-- Under any number but 0 the outputs are as they came; under 0 no byte behind the entries has changed.
use mathlib.Core.Path.{◌≡◌, ap, ◌∙◌}
use mathlib.Core.Logic.Iff
use mathlib.Core.List.{List}
use Prim.Native.Nat.{ℕ, ◌*◌}
use native.Mathlib.Omega.{arith}
use lib.ListN.{length, drop, length-replicate}
use lib.Seq.{drop_at}
use Rattle.scheme.specs.Scheme.{Outcome, found, failed}
use Rattle.derivation.proofs.Laws.{length-entry_of}
use Rattle.answers.specs.declared.Refusal.TheVariants.{WrongLength}
use Rattle.answers.specs.Answers.{number, Done}
use Rattle.answers.proofs.AnswerLaws.{number-done, unless-done, then-done, on_done_lem, on_refusal}
use Rattle.records.proofs.WrittenRecords.{part_length}
use Rattle.batch_records.specs.Batches.{body_place, count_of, batch_body, batch_tag, tagged_blocks, batch_answer}
use Rattle.batch_records.specs.WellFormed.{WellFormedBatch}
use Rattle.secret_keys.specs.SecretKeys.{secret_answer}
use Rattle.calls.specs.Calls.{opened_answer, opened_entry}
use Rattle.batch_calls.specs.Calls.{seal_batch_answer, seal_batch_out, batch_outcome, open_batch_answer, in_front, open_batch_out, open_batch_count}
use Rattle.batch_calls.specs.Promises.{Untouched}
use Rattle.batch_calls.proofs.Lengths.{opening-fits}
use Rattle.batch_calls.proofs.BatchDone.{batch-done}

-- ---- behind the entries

-- whatever is found, as many bytes are shown as the body has
pub length-opened : (o : Outcome) (body : List ℕ) → length (opened_entry o body) ≡ length body
length-opened (found t) body = length-entry_of t.r t.e1 t.e2 body
length-opened failed body = length-replicate (length body) 0

module _ (k batch noise out : List ℕ) (zero : number (open_batch_answer k batch noise (length out)) ≡ 0) where
  -- 0 is Done
  done : open_batch_answer k batch noise (length out) ≡ Done
  done = (number-done _).0 zero

  -- the batch has passed its checks
  well-formed : WellFormedBatch batch
  unfolding open_batch_answer
  well-formed =
      (batch-done batch).0
      ((Iff.trans (unless-done _ WrongLength _)
      (Iff.and (opening-fits k batch noise (length out))
      (Iff.trans (then-done (secret_answer k) _)
      (Iff.and Iff.rfl (then-done (batch_answer batch) (opened_answer (batch_outcome k batch noise) (tagged_blocks batch) (batch_tag batch))))))
      ).0 done).1.1.0

  -- what is written in front
  abbrev shown : List ℕ
  shown = opened_entry (batch_outcome k batch noise) (batch_body batch)

  -- 16 to an entry
  shown-size : length shown ≡ 16 * count_of batch
  shown-size =
      length-opened (batch_outcome k batch noise) (batch_body batch)
      ∙ part_length body_place (16 * count_of batch) batch (omega (arith, well-formed.size))

  -- behind it stands what stood there
  behind : drop (16 * count_of batch) (open_batch_out k batch noise out) ≡ drop (16 * count_of batch) out
  unfolding open_batch_out
  behind =
      ap (drop (16 * count_of batch)) (on_done_lem (in_front shown out) out done)
      ∙ drop_at shown (drop (length shown) out) (16 * count_of batch) shown-size
      ∙ ap (λ (i : ℕ). drop i out) shown-size

-- ---- all

pub untouched : Untouched
unfolding seal_batch_out open_batch_out open_batch_count
untouched = record {
  seal = λ k noise blocks out refused. on_refusal (seal_batch_answer k noise blocks (length out)) _ out refused;
  open-batch = λ k batch noise out lent refused.
      let answer = open_batch_answer k batch noise (length out) in
      (on_refusal answer _ out refused, on_refusal answer _ lent refused);
  behind-entries = behind;
}

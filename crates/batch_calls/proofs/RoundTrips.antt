-- Round trips: what is made for an accepted key with a ternary triple, that key opens; sealing with noise is a case of it.
use mathlib.Core.Path.{◌≡◌, sym, ap, ap₂, ◌∙◌}
use mathlib.Core.List.{List, ◌++◌}
use Prim.Native.Nat.{ℕ}
use lib.ListN.{length}
use borrow.Author.Tests.{eq-eqb}
use Rattle.scheme.specs.Scheme.{Triple}
use Rattle.derivation.specs.Derivation.{tag_of, entry_of}
use Rattle.derivation.proofs.Laws.{entry_of-body_of}
use Rattle.answers.specs.declared.Refusal.TheVariants.{WrongLength, WrongCount}
use Rattle.answers.specs.Answers.{number, Done}
use Rattle.answers.proofs.AnswerLaws.{unless_passed, on_done_lem}
use Rattle.batch_records.specs.Batches.{batch_length, entries_length, count_block, batch_body, batch_tag, tagged_blocks}
use Rattle.public_keys.specs.PublicKeys.{public_a, public_b}
use Rattle.keys.specs.Keys.{triple_noise_length, noise_triple}
use Rattle.calls.specs.Promises.{Ternaries, Accepted, PublicOf}
use Rattle.calls.proofs.Outcomes.{noise-ternary}
use Rattle.calls.proofs.Encapsulations.{public-accepted, encapsulates}
use Rattle.batch_calls.specs.Calls.{entries, seal_batch_answer, batch_with, sealed_batch, seal_batch_out}
use Rattle.batch_calls.specs.Calls.{open_batch_answer, in_front, open_batch_out, open_batch_count}
use Rattle.batch_calls.specs.Promises.{WholeEntries, RoundTrips}
use Rattle.batch_calls.proofs.Lengths.{count_iff, sealing-fits}
use Rattle.batch_calls.proofs.BatchExact.{open-batch-exact}
use Rattle.batch_calls.proofs.BatchParts.{batch-first, batch-second, batch-count, batch_body_lem, batch_tag_lem, batch_well-formed}

-- ---- made with a triple, then opened

module _ {k p : List ℕ} (accepted : Accepted k) (public : PublicOf p k) (t : Triple) (ternary : Ternaries t)
    (blocks : List ℕ) (whole : WholeEntries blocks) where
  abbrev a : List ℕ
  a = public_a p

  abbrev b : List ℕ
  b = public_b p

  abbrev made : List ℕ
  made = batch_with a b t blocks

  -- its tag is that of its count and its body
  tag-right : batch_tag made ≡ tag_of t.r t.e1 t.e2 (tagged_blocks made)
  tag-right =
      batch_tag_lem a b t blocks whole
      ∙ ap₂ (λ (m : ℕ) (body : List ℕ). tag_of t.r t.e1 t.e2 (count_block m ++ body))
      (sym (batch-count a b t blocks whole)) (sym (batch_body_lem a b t blocks whole))

  -- the triple shows the entries
  shown : entry_of t.r t.e1 t.e2 (batch_body made) ≡ blocks
  shown = ap (entry_of t.r t.e1 t.e2) (batch_body_lem a b t blocks whole) ∙ entry_of-body_of t.r t.e1 t.e2 blocks

  -- the same entries and their count, whatever the dummy
  made-opens : (dummy out : List ℕ) (lent : ℕ) → length dummy ≡ triple_noise_length → length out ≡ entries_length
      → (number (open_batch_answer k made dummy (length out)) ≡ 0)
      × (open_batch_out k made dummy out ≡ in_front blocks out)
      × (open_batch_count k made dummy (length out) lent ≡ entries blocks)
  made-opens dummy out lent dummy-size room =
      let opening = open-batch-exact k made dummy out lent accepted (batch_well-formed a b t blocks whole) dummy-size room in
      let (zero, after) = opening.exact.opens t
      (encapsulates public t ternary (batch-first a b t blocks whole) (batch-second a b t blocks whole)) tag-right in
      (zero, after ∙ ap (λ (new : List ℕ). in_front new out) shown, opening.counts zero ∙ batch-count a b t blocks whole)

-- ---- sealed with noise, then opened

module _ (k p noise blocks : List ℕ) (accepted : Accepted k) (public : PublicOf p k)
    (noise-size : length noise ≡ triple_noise_length) (whole : WholeEntries blocks) where
  -- every check passes
  seals : (room : ℕ) → room ≡ batch_length (entries blocks) → seal_batch_answer p noise blocks room ≡ Done
  unfolding seal_batch_answer
  seals room h =
      let (size, checked) = public-accepted public accepted in
      unless_passed WrongLength _ (eq-eqb _ _ whole.0)
      ∙ unless_passed WrongCount _ ((count_iff (entries blocks)).1 whole.1)
      ∙ unless_passed WrongLength _ ((sealing-fits p noise blocks room).1 (size, noise-size, h))
      ∙ checked

  -- what is written is the batch of the noise's triple
  seal_writes : (batch : List ℕ) → length batch ≡ batch_length (entries blocks)
      → seal_batch_out p noise blocks batch ≡ batch_with (public_a p) (public_b p) (noise_triple noise) blocks
  unfolding seal_batch_out sealed_batch
  seal_writes batch h = on_done_lem _ batch (seals (length batch) h)

  -- the same entries and their count, whatever the noise and the dummy
  seal-then_open : (batch dummy out : List ℕ) (lent : ℕ) → length batch ≡ batch_length (entries blocks)
      → length dummy ≡ triple_noise_length → length out ≡ entries_length
      → (number (seal_batch_answer p noise blocks (length batch)) ≡ 0)
      × (number (open_batch_answer k (seal_batch_out p noise blocks batch) dummy (length out)) ≡ 0)
      × (open_batch_out k (seal_batch_out p noise blocks batch) dummy out ≡ in_front blocks out)
      × (open_batch_count k (seal_batch_out p noise blocks batch) dummy (length out) lent ≡ entries blocks)
  seal-then_open batch dummy out lent h dummy-size room =
      let (zero, same, counted) = made-opens accepted public (noise_triple noise) (noise-ternary noise) blocks whole dummy out lent dummy-size room in
      rw (seal_writes batch h) (ap number (seals (length batch) h), zero, same, counted)

pub round-trips : RoundTrips
round-trips = record {
  made = λ k p t blocks dummy out lent accepted public ternary whole dummy-size room.
      made-opens accepted public t ternary blocks whole dummy out lent dummy-size room;
  sealed = λ k p noise blocks batch dummy out lent accepted public noise-size whole size dummy-size room.
      seal-then_open k p noise blocks accepted public noise-size whole batch dummy out lent size dummy-size room;
}

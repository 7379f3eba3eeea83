-- Round trips: sealing with noise and encapsulating a triple are cases of records that open.
use mathlib.Core.Path.{◌≡◌, ap, ◌∙◌}
use mathlib.Core.List.{List}
use Prim.Native.Nat.{ℕ}
use lib.ListN.{length}
use Rattle.gf128.specs.Bytes.{Block}
use Rattle.answers.specs.Answers.{number, Done}
use Rattle.records.specs.Layout.{sealed_entry_length, encapsulation_length, triple_length, block_length}
use Rattle.triples.specs.Triple.{triple_of}
use Rattle.triples.specs.WellFormed.{WellFormedTriple}
use Rattle.public_keys.specs.PublicKeys.{public_a, public_b}
use Rattle.keys.specs.Keys.{triple_noise_length, noise_triple}
use Rattle.calls.specs.Calls.{encapsulate_answer, encapsulated_with, encapsulate_out, decapsulate_answer, decapsulate_out}
use Rattle.calls.specs.Calls.{seal_answer, sealed_with, sealed_bytes, seal_out, open_answer, open_out}
use Rattle.calls.specs.Promises.{Accepted, PublicOf, Bytes, RoundTrips}
use Rattle.answers.proofs.AnswerLaws.{on_done_lem}
use Rattle.triples.proofs.TripleLaws.{triple-done}
use Rattle.triples.proofs.WrittenTriples.{triple_bytes_lem}
use Rattle.calls.proofs.WhenDone.{encapsulate-done, seal-done}
use Rattle.calls.proofs.Outcomes.{coded-ternary, noise-ternary}
use Rattle.calls.proofs.Encapsulations.{public-accepted}
use Rattle.calls.proofs.RecordsOpen.{sealed-opens, encapsulated-opens}
use Rattle.calls.proofs.GeneratedKeys.{generated, seeded-generated}

-- ---- seal, then open

module _ (k p noise entry : List ℕ) (accepted : Accepted k) (public : PublicOf p k) (noise-size : length noise ≡ triple_noise_length) (block : Block entry) where
  seals : (room : ℕ) → room ≡ sealed_entry_length → seal_answer p noise entry room ≡ Done
  seals room h =
      let (size, checked) = public-accepted public accepted in
      (seal-done p noise entry room).1 ((size, noise-size, block.size, h), checked)

  seal_writes : (sealed : List ℕ) → length sealed ≡ sealed_entry_length → seal_out p noise entry sealed ≡ sealed_with (public_a p) (public_b p) (noise_triple noise) entry
  unfolding seal_out sealed_bytes
  seal_writes sealed h = on_done_lem _ sealed (seals (length sealed) h)

  seal-then_open : (sealed dummy out : List ℕ) → length sealed ≡ sealed_entry_length → length dummy ≡ triple_noise_length → length out ≡ block_length
      → (number (seal_answer p noise entry (length sealed)) ≡ 0)
      × (number (open_answer k (seal_out p noise entry sealed) dummy (length out)) ≡ 0)
      × (open_out k (seal_out p noise entry sealed) dummy out ≡ entry)
  seal-then_open sealed dummy out h dummy-size room =
      let (zero, same) = sealed-opens accepted public (noise_triple noise) (noise-ternary noise) block dummy out dummy-size room in
      rw (seal_writes sealed h) (ap number (seals (length sealed) h), zero, same)

-- ---- encapsulate, then decapsulate

module _ (k p t : List ℕ) (accepted : Accepted k) (public : PublicOf p k) (wt : WellFormedTriple t) where
  encapsulates-done : (room : ℕ) → room ≡ encapsulation_length → encapsulate_answer p t room ≡ Done
  encapsulates-done room h =
      let (size, checked) = public-accepted public accepted in
      (encapsulate-done p t room).1 ((size, wt.size, h), (checked, (triple-done t).1 (wt.r-codes, wt.e1-codes, wt.e2-codes)))

  encapsulate_writes : (c : List ℕ) → length c ≡ encapsulation_length → encapsulate_out p t c ≡ encapsulated_with (public_a p) (public_b p) (triple_of t)
  unfolding encapsulate_out
  encapsulate_writes c h = on_done_lem _ c (encapsulates-done (length c) h)

  encapsulate-then-decapsulate : (c dummy out : List ℕ) → Bytes t → length c ≡ encapsulation_length → WellFormedTriple dummy → length out ≡ triple_length
      → (number (encapsulate_answer p t (length c)) ≡ 0)
      × (number (decapsulate_answer k (encapsulate_out p t c) dummy (length out)) ≡ 0)
      × (decapsulate_out k (encapsulate_out p t c) dummy out ≡ t)
  encapsulate-then-decapsulate c dummy out bytes h wd room =
      let (zero, same) = encapsulated-opens accepted public (triple_of t) (coded-ternary t) dummy out wd room in
      rw (encapsulate_writes c h) (ap number (encapsulates-done (length c) h), zero, same ∙ triple_bytes_lem t wt bytes)

pub round-trips : RoundTrips
round-trips = record {
  sealed = λ k p noise entry sealed dummy out accepted public noise-size size bytes sealed-size dummy-size room.
      seal-then_open k p noise entry accepted public noise-size (record { size = size; small = bytes }) sealed dummy out sealed-size dummy-size room;
  encapsulated = λ k p t c dummy out accepted public wt bytes size wd room. encapsulate-then-decapsulate k p t accepted public wt c dummy out bytes size wd room;
  generated = generated;
  seeded-generated = seeded-generated;
}

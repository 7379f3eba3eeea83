-- Either form, one answer: two accepted keys with the same a, b and s have the same inverse, and what they find is free of the dummy.
use mathlib.Core.Path.{◌≡◌, refl, sym, ap, ◌∙◌}
use mathlib.Core.Bool.{Bool, true, false, ◌&&◌}
use mathlib.Core.List.{List}
use Prim.Native.Nat.{ℕ}
use lib.Dec.{eqb, leb}
use lib.ListN.{length}
use borrow.Author.Tests.{eq-eqb, le-leb}
use Rattle.lists.proofs.Equal.{ap₃}
use Rattle.ring.specs.Ring.{Element}
use Rattle.ring.specs.Invertible.{inverse_of}
use Rattle.scheme.specs.Scheme.{Triple, Outcome}
use Rattle.answers.specs.declared.Refusal.TheVariants.{WrongLength}
use Rattle.answers.specs.Answers.{unless, and_then, on_done, Answer, Done}
use Rattle.records.specs.Layout.{header_length, sealed_entry_length, encapsulation_length, triple_length, block_length}
use Rattle.records.specs.Records.{first_of, second_of, body_part, tag_part, sealed_entry_answer, c1_of, c2_of, encapsulation_answer}
use Rattle.triples.specs.Triple.{triple_of}
use Rattle.triples.specs.WellFormed.{WellFormedTriple}
use Rattle.batch_records.specs.Batches.{batch_overhead, entries_length, count_of, batch_body, batch_tag, tagged_blocks, batch_answer}
use Rattle.secret_keys.specs.SecretKeys.{KeyElements, elements_of}
use Rattle.keys.specs.Keys.{triple_noise_length, noise_triple}
use Rattle.calls.specs.Calls.{outcome, outcome_answer, outcome_bytes, opened_answer, opened_entry, decapsulate_answer, decapsulate_out, open_answer, open_out}
use Rattle.calls.specs.Promises.{Ternaries, Accepted}
use Rattle.batch_calls.specs.Calls.{batch_outcome, in_front, open_batch_answer, open_batch_out, open_batch_count}
use Rattle.records.proofs.RecordLaws.{encapsulation-done, sealed_entry-done}
use Rattle.triples.proofs.TripleLaws.{triple-done}
use Rattle.secret_keys.proofs.ElementLaws.{secret-elements}
use Rattle.calls.proofs.CheckExact.{accepted-size, accepted-done}
use Rattle.calls.proofs.Outcomes.{coded-ternary, noise-ternary, accepted-sound, outcome_free}
use Rattle.batch_calls.proofs.BatchDone.{batch-done}
use Rattle.conversion_calls.specs.Promises.{SameKey, EitherFormOneAnswer}
use Rattle.std.specs.Prelude.{Ok, Err}

-- what an opening says and writes of what it found, behind the tests of lengths and the checks of what is opened: it is looked at only where
-- these pass
same_behind : {A : Type 0} (fit : Bool) (checked : Answer) (say : Outcome → Answer) (put : Outcome → A) (before : A) (o o' : Outcome) → (checked ≡ Done → o ≡ o')
    → (unless fit WrongLength (and_then checked (say o)) ≡ unless fit WrongLength (and_then checked (say o')))
    × (on_done (unless fit WrongLength (and_then checked (say o))) (put o) before ≡ on_done (unless fit WrongLength (and_then checked (say o'))) (put o') before)
same_behind fit (Ok _) say put before o o' same =
    let e = same refl in
    let said : Outcome → Answer = λ x. unless fit WrongLength (say x) in
    (ap said e, ap (λ (x : Outcome). on_done (said x) (put x) before) e)
same_behind true (Err r) say put before o o' same = (refl, refl)
same_behind false (Err r) say put before o o' same = (refl, refl)

module _ (k k' : List ℕ) (accepted : Accepted k) (accepted' : Accepted k') (same : SameKey k k') where
  same-elements : elements_of k ≡ elements_of k'
  same-elements =
      let of : List ℕ → List ℕ → List ℕ → KeyElements = λ a b s. record { a = a; b = b; s = s; inverse = inverse_of b } in
      secret-elements k (accepted-done k accepted) ∙ ap₃ of same.0 same.1 same.2 ∙ sym (secret-elements k' (accepted-done k' accepted'))

  -- what is found, under any two dummies
  same_outcome : (c1 c2 : List ℕ) (d d' : Triple) → Element c1 → Element c2 → Ternaries d → Ternaries d'
      → outcome (elements_of k) d c1 c2 ≡ outcome (elements_of k') d' c1 c2
  same_outcome c1 c2 d d' h1 h2 hd hd' =
      ap (λ (key : KeyElements). outcome key d c1 c2) same-elements
      ∙ outcome_free (elements_of k') c1 c2 d' (accepted-sound k' accepted') h1 h2 hd' d hd

-- ---- an opening of an accepted key: its header, its checks and the dummy pass

-- the tests of lengths that are left
abbrev decapsulate_fit : (c : List ℕ) (room : ℕ) → Bool
decapsulate_fit c room = true && eqb (length c) encapsulation_length && true && eqb room triple_length

abbrev open_fit : (sealed : List ℕ) (room : ℕ) → Bool
open_fit sealed room = true && eqb (length sealed) sealed_entry_length && true && eqb room block_length

abbrev batch_fit : (batch : List ℕ) (room : ℕ) → Bool
batch_fit batch room = true && leb batch_overhead (length batch) && true && eqb room entries_length

module _ (k : List ℕ) (accepted : Accepted k) where
  header_passes : leb header_length (length k) ≡ true
  header_passes = le-leb header_length (length k) (accepted-size k accepted)

  decapsulate_behind : (c d : List ℕ) (room : ℕ) → WellFormedTriple d
      → decapsulate_answer k c d room
      ≡ unless (decapsulate_fit c room) WrongLength
      (and_then (encapsulation_answer c) (outcome_answer (outcome (elements_of k) (triple_of d) (c1_of c) (c2_of c))))
  unfolding decapsulate_answer
  decapsulate_behind c d room wd =
      rw (header_passes, eq-eqb (length d) triple_length wd.size, accepted-done k accepted, (triple-done d).1 (wd.r-codes, wd.e1-codes, wd.e2-codes)) refl

  open_behind : (sealed noise : List ℕ) (room : ℕ) → length noise ≡ triple_noise_length
      → open_answer k sealed noise room
      ≡ unless (open_fit sealed room) WrongLength
      (and_then (sealed_entry_answer sealed) (opened_answer (outcome (elements_of k) (noise_triple noise) (first_of sealed) (second_of sealed)) (body_part sealed) (tag_part sealed)))
  unfolding open_answer
  open_behind sealed noise room size = rw (header_passes, eq-eqb (length noise) triple_noise_length size, accepted-done k accepted) refl

  batch_behind : (batch noise : List ℕ) (room : ℕ) → length noise ≡ triple_noise_length
      → open_batch_answer k batch noise room
      ≡ unless (batch_fit batch room) WrongLength
      (and_then (batch_answer batch) (opened_answer (batch_outcome k batch noise) (tagged_blocks batch) (batch_tag batch)))
  unfolding open_batch_answer
  batch_behind batch noise room size = rw (header_passes, eq-eqb (length noise) triple_noise_length size, accepted-done k accepted) refl

pub either_form : EitherFormOneAnswer
unfolding decapsulate_out open_out open_batch_out open_batch_count
either_form k k' accepted accepted' same = record {
  decapsulated = λ c d d' out wd wd'.
      let found = same_outcome k k' accepted accepted' same (c1_of c) (c2_of c) (triple_of d) (triple_of d') in
      rw (decapsulate_behind k accepted c d (length out) wd, decapsulate_behind k' accepted' c d' (length out) wd')
      (same_behind (decapsulate_fit c (length out)) (encapsulation_answer c) outcome_answer outcome_bytes out _ _
      (λ done. let (h1, h2) = (encapsulation-done c).0 done in found h1 h2 (coded-ternary d) (coded-ternary d')));
  opened = λ sealed noise noise' out size size'.
      let found = same_outcome k k' accepted accepted' same (first_of sealed) (second_of sealed) (noise_triple noise) (noise_triple noise') in
      rw (open_behind k accepted sealed noise (length out) size, open_behind k' accepted' sealed noise' (length out) size')
      (same_behind (open_fit sealed (length out)) (sealed_entry_answer sealed) (λ o. opened_answer o (body_part sealed) (tag_part sealed)) (λ o. opened_entry o (body_part sealed)) out _ _
      (λ done. let w = (sealed_entry-done sealed).0 done in found w.first-words w.second-words (noise-ternary noise) (noise-ternary noise')));
  opened-batch = λ batch noise noise' out lent size size'.
      let found : batch_answer batch ≡ Done → batch_outcome k batch noise ≡ batch_outcome k' batch noise' = λ done.
      let w = ((batch-done batch).0 done).front in
      same_outcome k k' accepted accepted' same (first_of batch) (second_of batch) (noise_triple noise) (noise_triple noise')
      w.first-words w.second-words (noise-ternary noise) (noise-ternary noise') in
      let say : Outcome → Answer = λ o. opened_answer o (tagged_blocks batch) (batch_tag batch) in
      rw (batch_behind k accepted batch noise (length out) size, batch_behind k' accepted' batch noise' (length out) size')
      (let (said, put) = same_behind (batch_fit batch (length out)) (batch_answer batch) say (λ o. in_front (opened_entry o (batch_body batch)) out) out _ _ found in
      (said, put, (same_behind (batch_fit batch (length out)) (batch_answer batch) say (λ o. count_of batch) lent _ _ found).1));
}

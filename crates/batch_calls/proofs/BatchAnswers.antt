-- What the tests and checks in both calls on batches say: a key's numbers behind the tests of sealing; 1 and 12, the word that 11 names,
-- and which numbers the checks of a batch never say.
use mathlib.Core.Path.{◌≡◌, refl}
use mathlib.Core.Bool.{true}
use mathlib.Core.Logic.Iff
use mathlib.Core.Logic.{◌↔◌, ◌⊎◌, inl, inr, ⊎_map, ⊎_elim}
use mathlib.Core.List.{List}
use Prim.Native.Nat.{ℕ, ◌%◌, ◌<◌}
use native.Mathlib.Omega.{arith}
use lib.Dec.{eqb}
use lib.ListN.{length}
use Rattle.scheme.specs.Scheme.{Outcome}
use Rattle.encoding.specs.Header.{has_mark, version_of}
use Rattle.encoding.proofs.Words.{length-element_of}
use Rattle.answers.specs.declared.EncapsulationRecord.TheVariants.{SealedEntry}
use Rattle.answers.specs.declared.Refusal.TheVariants.{WrongLength, WrongCount}
use Rattle.answers.specs.declared.Location.{Location}
use Rattle.answers.specs.Answers.{number, unless, and_then, Answer, Done}
use Rattle.answers.specs.Locations.{sealed_entry, c1_part, c2_part, Names}
use Rattle.answers.proofs.AnswerLaws.{Never, unless_never, then_never, unless-says, then-says, says_either, fails-here, then-refuses, unless_names, then_names}
use Rattle.records.specs.Layout.{sealed_entry_mark}
use Rattle.records.specs.Records.{c1_word, c2_word, elements_answer, first_of, second_of}
use Rattle.records.specs.Named.{NamedInTwo}
use Rattle.records.proofs.RecordLaws.{header-done, header_never, elements_never}
use Rattle.records.proofs.NamedWords.{c1_word_lem, c2_word_lem, elements_named}
use Rattle.batch_records.specs.Batches.{batch_length, count_of, is_count, batch_tag, tagged_blocks, batch_answer}
use Rattle.batch_records.specs.WellFormed.{Count}
use Rattle.public_keys.specs.PublicKeys.{public_answer}
use Rattle.secret_keys.specs.SecretKeys.{secret_answer}
use Rattle.calls.specs.Calls.{opened_answer}
use Rattle.calls.proofs.Lengths.{one-fits, says-after_lengths, names-after_lengths}
use Rattle.calls.proofs.Behind.{opened_never}
use Rattle.calls.proofs.CheckExact.{accepted}
use Rattle.batch_calls.specs.Calls.{entries, seal_batch_answer, batch_outcome}
use Rattle.batch_calls.specs.Promises.{SealingFits, OpeningFits, WholeEntries, BeforeCount}
use Rattle.batch_calls.proofs.Lengths.{count_iff, sealing-fits}

-- ---- sealing: what the key's checks say, behind the tests

module _ (k noise blocks : List ℕ) (room : ℕ) where
  -- the tests in their order
  in_order : {Says : Type 0}
      → ((length blocks % 16 ≡ 0) × (Count (entries blocks) × (SealingFits k noise blocks room × Says)))
      ↔ (WholeEntries blocks × SealingFits k noise blocks room × Says)
  in_order = (λ (whole, (count, (fits, says))). ((whole, count), fits, says), λ ((whole, count), fits, says). (whole, (count, (fits, says))))

  -- a number that none of these tests says
  pub seal-says : (n : ℕ) → 1 < n → ¬ (12 ≡ n)
      → (number (seal_batch_answer k noise blocks room) ≡ n) ↔ (WholeEntries blocks × SealingFits k noise blocks room × (number (public_answer k) ≡ n))
  unfolding seal_batch_answer
  seal-says n h count =
      Iff.trans
      (says-after_lengths n _ h (one-fits (length blocks % 16) 0)
      (Iff.trans (unless-says n (is_count (entries blocks)) WrongCount _ count)
      (Iff.and (count_iff (entries blocks)) (says-after_lengths n (public_answer k) h (sealing-fits k noise blocks room) Iff.rfl))))
      in_order

  -- .. and a word
  pub seal_names : (n : ℕ) (l : Location) → 1 < n → ¬ (12 ≡ n)
      → Names n l (seal_batch_answer k noise blocks room) ↔ (WholeEntries blocks × SealingFits k noise blocks room × Names n l (public_answer k))
  unfolding seal_batch_answer
  seal_names n l h count =
      Iff.trans
      (names-after_lengths n l _ h (one-fits (length blocks % 16) 0)
      (Iff.trans (unless_names n l (is_count (entries blocks)) WrongCount _ count)
      (Iff.and (count_iff (entries blocks)) (names-after_lengths n l (public_answer k) h (sealing-fits k noise blocks room) Iff.rfl))))
      in_order

-- ---- the checks of a batch

-- mark and version
abbrev HasFront : (batch : List ℕ) → Type 0
HasFront batch = (has_mark sealed_entry_mark batch ≡ true) × (version_of batch ≡ 2)

module _ (batch : List ℕ) where
  -- its words are refused under 11
  batch-words_never : {n : ℕ} → 0 < n → ¬ (11 ≡ n) → Never n (elements_answer (c1_word SealedEntry) (c2_word SealedEntry) (first_of batch) (second_of batch))
  batch-words_never some bad-word =
      elements_never some (c1_word SealedEntry) (c2_word SealedEntry) (first_of batch) (second_of batch) (λ i e. bad-word e) (λ i e. bad-word e)

  -- the test of its length says 1 only
  behind-count_never : {n : ℕ} → 1 < n → ¬ (11 ≡ n)
      → Never n (unless (eqb (length batch) (batch_length (count_of batch))) WrongLength
      (elements_answer (c1_word SealedEntry) (c2_word SealedEntry) (first_of batch) (second_of batch)))
  behind-count_never h bad-word =
      unless_never (eqb (length batch) (batch_length (count_of batch))) WrongLength (λ e. omega arith) (batch-words_never (omega arith) bad-word)

  -- they say 1, 2, 3, 11 and 12 only, and what stands behind them 9 and 10
  pub batch-rest_never : {n : ℕ} → 3 < n → (8 < n → 12 < n) → (o : Outcome) (blocks tag : List ℕ) → Never n (and_then (batch_answer batch) (opened_answer o blocks tag))
  unfolding batch_answer
  batch-rest_never low high o blocks tag =
      then_never
      (then_never (header_never (omega arith) sealed_entry_mark 2 batch)
      (unless_never (is_count (count_of batch)) WrongCount (λ e. omega (arith, high (omega arith)))
      (behind-count_never (omega arith) (λ e. omega (arith, high (omega arith))))))
      (opened_never (omega arith) (λ e. omega (arith, high (omega arith))) (λ e. omega (arith, high (omega arith))) o blocks tag)

  -- behind mark and version, the count does not fit
  pub batch-says_12 : (number (batch_answer batch) ≡ 12) ↔ (HasFront batch × ¬ (Count (count_of batch)))
  unfolding batch_answer
  batch-says_12 =
      Iff.trans (then-says _ (header_never (omega arith) sealed_entry_mark 2 batch))
      (Iff.and (header-done sealed_entry_mark 2 batch)
      (fails-here WrongCount (count_iff (count_of batch)) (behind-count_never (omega arith) (λ e. omega arith))))

  -- the count fits, and the length is another
  pub batch-says_1 : (number (batch_answer batch) ≡ 1)
      ↔ (HasFront batch × (Count (count_of batch) × ¬ (length batch ≡ batch_length (count_of batch))))
  unfolding batch_answer
  batch-says_1 =
      Iff.trans (then-says _ (header_never (omega arith) sealed_entry_mark 2 batch))
      (Iff.and (header-done sealed_entry_mark 2 batch)
      (Iff.trans (unless-says 1 (is_count (count_of batch)) WrongCount _ (λ e. omega arith))
      (Iff.and (count_iff (count_of batch))
      (fails-here WrongLength (one-fits (length batch) (batch_length (count_of batch))) (batch-words_never (omega arith) (λ e. omega arith))))))

  -- count and length fit, and 11 names the first word that is q or more
  pub batch_named : (l : Location) → Names 11 l (batch_answer batch)
      ↔ (HasFront batch
      × (Count (count_of batch)
      × ((length batch ≡ batch_length (count_of batch)) × NamedInTwo sealed_entry c1_part c2_part (first_of batch) (second_of batch) l)))
  unfolding batch_answer
  batch_named l =
      Iff.trans (then_names _ (header_never (omega arith) sealed_entry_mark 2 batch))
      (Iff.and (header-done sealed_entry_mark 2 batch)
      (Iff.trans (unless_names 11 l (is_count (count_of batch)) WrongCount _ (λ e. omega arith))
      (Iff.and (count_iff (count_of batch))
      (names-after_lengths 11 l _ (omega arith) (one-fits (length batch) (batch_length (count_of batch)))
      (elements_named (omega arith) (c1_word_lem SealedEntry (λ p. refl)) (c2_word_lem SealedEntry (λ p. refl)) (first_of batch) (second_of batch) l
      (length-element_of _) (length-element_of _))))))

-- ---- opening: what stands before the count

module _ (k batch noise : List ℕ) (room : ℕ) where
  -- an accepted key is one that has a header and whose checks pass
  pub before-count : {G : Type 0}
      → (OpeningFits k batch noise room × ((secret_answer k ≡ Done) × (HasFront batch × G))) ↔ (BeforeCount k batch noise room × G)
  before-count = (
    λ (fits, (checked, ((mark, version), g))). ((fits, (accepted k).1 (fits.0, checked), mark, version), g),
    λ ((fits, key, mark, version), g). (fits, (((accepted k).0 key).1, ((mark, version), g))),
  )

  -- what stands behind a key, and with it
  abbrev pub behind_key : Answer
  behind_key = and_then (batch_answer batch) (opened_answer (batch_outcome k batch noise) (tagged_blocks batch) (batch_tag batch))

  -- a number that the checks of a batch say where mark and version pass and G holds, and not what stands behind them
  behind-says : {n : ℕ} {G : Type 0} → 0 < n → ¬ (9 ≡ n) → ¬ (10 ≡ n) → (number (batch_answer batch) ≡ n) ↔ (HasFront batch × G)
      → (number behind_key ≡ n) ↔ (HasFront batch × G)
  behind-says some no-triple bad-tag says =
      Iff.trans
      (then-refuses (batch_answer batch) some (opened_never some no-triple bad-tag (batch_outcome k batch noise) (tagged_blocks batch) (batch_tag batch)))
      says

  -- .. and not those of a key
  pub batch-says : {n : ℕ} {G : Type 0} → Never n (secret_answer k) → 0 < n → ¬ (9 ≡ n) → ¬ (10 ≡ n) → (number (batch_answer batch) ≡ n) ↔ (HasFront batch × G)
      → (OpeningFits k batch noise room × (number (and_then (secret_answer k) behind_key) ≡ n)) ↔ (BeforeCount k batch noise room × G)
  batch-says never some no-triple bad-tag says =
      Iff.trans (Iff.and Iff.rfl (Iff.trans (then-says _ never) (Iff.and Iff.rfl (behind-says some no-triple bad-tag says)))) before-count

  -- .. or those of a key, where S holds
  pub key_or-batch-says : {n : ℕ} {S G : Type 0} → 0 < n → ¬ (9 ≡ n) → ¬ (10 ≡ n) → (number (secret_answer k) ≡ n) ↔ S
      → (number (batch_answer batch) ≡ n) ↔ (HasFront batch × G)
      → (OpeningFits k batch noise room × (number (and_then (secret_answer k) behind_key) ≡ n))
      ↔ ((OpeningFits k batch noise room × S) ⊎ (BeforeCount k batch noise room × G))
  key_or-batch-says some no-triple bad-tag key says =
      Iff.trans (Iff.and Iff.rfl (says_either (secret_answer k) behind_key some)) (
        λ (fits, said). ⊎_map (λ e. (fits, key.0 e)) (λ (done, e). before-count.0 (fits, (done, (behind-says some no-triple bad-tag says).0 e))) said,
        ⊎_elim (λ (fits, s). (fits, inl (key.1 s)))
            (λ g. let (fits, (done, e)) = before-count.1 g in (fits, inr (done, (behind-says some no-triple bad-tag says).1 e))),
      )

-- Which word 4 and 11 name, and that codes are read back.
use mathlib.Core.Path.{◌≡◌, refl}
use mathlib.Core.Logic.Iff
use mathlib.Core.Logic.{◌↔◌}
use mathlib.Core.List.{List}
use Prim.Native.Nat.{ℕ}
use native.Mathlib.Omega.{arith}
use lib.ListN.{length}
use Rattle.answers.specs.declared.Location.{Location}
use Rattle.answers.specs.Answers.{number}
use Rattle.answers.specs.Locations.{sealed_entry, c1_part, c2_part, Names}
use Rattle.answers.proofs.AnswerLaws.{names-first}
use Rattle.records.specs.Records.{first_of, second_of}
use Rattle.records.specs.Named.{NamedInTwo}
use Rattle.batch_records.specs.Batches.{batch_length, count_of, batch_tag, tagged_blocks, batch_answer}
use Rattle.batch_records.specs.WellFormed.{Count}
use Rattle.public_keys.specs.WellFormed.{PublicNamed}
use Rattle.public_keys.proofs.PublicLaws.{public_named, public_never}
use Rattle.secret_keys.specs.SecretKeys.{secret_answer}
use Rattle.secret_keys.specs.WellFormed.{SecretNamed}
use Rattle.secret_keys.proofs.SecretLaws.{secret_named}
use Rattle.calls.proofs.Behind.{opened_never}
use Rattle.calls.proofs.Lengths.{names-after_lengths}
use Rattle.calls.proofs.LocatedExact.{names-after-key}
use Rattle.calls.proofs.CodesRead.{in_two-small, public-small, secret-small, by_number}
use Rattle.batch_calls.specs.Calls.{seal_batch_answer, batch_outcome, open_batch_answer}
use Rattle.batch_calls.specs.Promises.{SealingFits, OpeningFits, WholeEntries, BeforeCount, NamedExact}
use Rattle.batch_calls.proofs.Lengths.{opening-fits}
use Rattle.batch_calls.proofs.BatchAnswers.{seal-says, seal_names, batch-rest_never, batch_named, before-count}

module _ (k noise blocks : List ℕ) (room : ℕ) where
  -- 4 names a word of the public key
  seal_4 : (l : Location) → Names 4 l (seal_batch_answer k noise blocks room) ↔ (WholeEntries blocks × SealingFits k noise blocks room × PublicNamed k l)
  seal_4 l =
      Iff.trans (seal_names k noise blocks room 4 l (omega arith) (λ e. omega arith)) (
        λ (whole, fits, names). (whole, fits, (public_named k l).0 (fits.0, names)),
        λ (whole, fits, named). (whole, fits, ((public_named k l).1 named).1),
      )

  -- nothing of what is lent to sealing has words that 11 names
  seal_never : ¬ (number (seal_batch_answer k noise blocks room) ≡ 11)
  seal_never e = (public_never k {number = 11} (omega arith)).never ((seal-says k noise blocks room 11 (omega arith) (λ e. omega arith)).0 e).2

module _ (k batch noise : List ℕ) (room : ℕ) where
  -- 4 names a word of the secret key
  open_4 : (l : Location) → Names 4 l (open_batch_answer k batch noise room) ↔ (OpeningFits k batch noise room × SecretNamed k l)
  unfolding open_batch_answer
  open_4 l =
      names-after_lengths 4 l _ (omega arith) (opening-fits k batch noise room)
      (Iff.trans
      (names-first (secret_answer k) (omega arith)
      (batch-rest_never batch (omega arith) (λ h. omega arith) (batch_outcome k batch noise) (tagged_blocks batch) (batch_tag batch)))
      (secret_named k l))

  -- 11 names a word of c1 or c2
  open_11 : (l : Location) → Names 11 l (open_batch_answer k batch noise room)
      ↔ (BeforeCount k batch noise room
      × Count (count_of batch)
      × (length batch ≡ batch_length (count_of batch))
      × NamedInTwo sealed_entry c1_part c2_part (first_of batch) (second_of batch) l)
  unfolding open_batch_answer
  open_11 l =
      Iff.trans
      (names-after_lengths 11 l _ (omega arith) (opening-fits k batch noise room)
      (names-after-key k l (batch_answer batch)
      (opened_never (omega arith) (λ e. omega arith) (λ e. omega arith) (batch_outcome k batch noise) (tagged_blocks batch) (batch_tag batch))
      (batch_named batch l)))
      (Iff.trans (before-count k batch noise room)
      (λ (before, (count, (size, named))). (before, count, size, named), λ (before, count, size, named). (before, (count, (size, named)))))

pub named-exact : NamedExact
named-exact = record {
  seal_4 = seal_4;
  open_4 = open_4;
  open_11 = open_11;
  seal_never = seal_never;
  seal-code = λ k noise blocks room.
      by_number (seal_batch_answer k noise blocks room) (λ e. public-small k ((seal_4 k noise blocks room _).0 (e, refl)).2)
      (λ e. absurd (seal_never k noise blocks room e));
  open_code = λ k batch noise room.
      by_number (open_batch_answer k batch noise room) (λ e. secret-small k ((open_4 k batch noise room _).0 (e, refl)).1)
      (λ e. in_two-small ((open_11 k batch noise room _).0 (e, refl)).3);
}

-- When 6 and 8 are said.
use mathlib.Core.Logic.Iff
use mathlib.Core.Logic.{◌↔◌}
use native.Mathlib.Omega.{arith}
use Rattle.answers.proofs.AnswerLaws.{then-refuses}
use Rattle.batch_records.specs.Batches.{batch_tag, tagged_blocks}
use Rattle.public_keys.proofs.PublicLaws.{public_refused, public_exhausted}
use Rattle.secret_keys.specs.SecretKeys.{secret_answer}
use Rattle.secret_keys.proofs.SecretLaws.{secret-not-invertible}
use Rattle.calls.proofs.Lengths.{says-after_lengths}
use Rattle.batch_calls.specs.Calls.{batch_outcome, open_batch_answer}
use Rattle.batch_calls.specs.Promises.{KeysExact}
use Rattle.batch_calls.proofs.Lengths.{opening-fits}
use Rattle.batch_calls.proofs.BatchAnswers.{seal-says, batch-rest_never}

-- what the checks of a public key say where its length fits, R and N
of-key : {W Size H1 H2 Says R N : Type 0} → (Size × Says) ↔ (R × N) → (W × (Size × H1 × H2) × Says) ↔ (W × (Size × H1 × H2) × R × N)
of-key key = (
  λ (whole, fits, says). let (r, n) = key.0 (fits.0, says) in (whole, fits, r, n),
  λ (whole, fits, r, n). (whole, fits, (key.1 (r, n)).1),
)

pub keys-exact : KeysExact
unfolding open_batch_answer
keys-exact = record {
  seal_6 = λ k noise blocks room. Iff.trans (seal-says k noise blocks room 6 (omega arith) (λ e. omega arith)) (of-key (public_refused k));
  seal_8 = λ k noise blocks room. Iff.trans (seal-says k noise blocks room 8 (omega arith) (λ e. omega arith)) (of-key (public_exhausted k));
  open_6 = λ k batch noise room.
      Iff.trans
      (says-after_lengths 6 _ (omega arith) (opening-fits k batch noise room)
      (Iff.trans
      (then-refuses (secret_answer k) (omega arith)
      (batch-rest_never batch (omega arith) (λ h. omega arith) (batch_outcome k batch noise) (tagged_blocks batch) (batch_tag batch)))
      (secret-not-invertible k)))
      (λ (fits, (w, none)). (fits, w, none), λ (fits, w, none). (fits, (w, none)));
}

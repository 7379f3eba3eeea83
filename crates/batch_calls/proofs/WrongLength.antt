-- When 1 is said.
use mathlib.Core.Logic.Iff
use mathlib.Core.Logic.{⊎_map}
use Prim.Native.Nat.{◌%◌}
use native.Mathlib.Omega.{arith}
use lib.ListN.{length}
use Rattle.answers.specs.declared.Refusal.TheVariants.{WrongLength, WrongCount}
use Rattle.answers.proofs.AnswerLaws.{unless-says, fails-here, fails_or}
use Rattle.batch_records.specs.Batches.{is_count}
use Rattle.public_keys.proofs.PublicLaws.{public_never}
use Rattle.secret_keys.proofs.SecretLaws.{secret-misfit}
use Rattle.calls.proofs.Lengths.{one-fits}
use Rattle.batch_calls.specs.Calls.{entries, seal_batch_answer, open_batch_answer}
use Rattle.batch_calls.specs.Promises.{WrongLengthExact}
use Rattle.batch_calls.proofs.Lengths.{count_iff, sealing-fits, opening-fits}
use Rattle.batch_calls.proofs.BatchAnswers.{batch-says_1, key_or-batch-says}

pub wrong_length-exact : WrongLengthExact
unfolding seal_batch_answer open_batch_answer
wrong_length-exact = record {
  -- of the entries, and of what is lent beside them
  seal = λ k noise blocks room.
      fails_or WrongLength _ (one-fits (length blocks % 16) 0)
      (Iff.trans
      (Iff.and Iff.rfl
      (Iff.trans (unless-says 1 (is_count (entries blocks)) WrongCount _ (λ e. omega arith))
      (Iff.and (count_iff (entries blocks)) (fails-here WrongLength (sealing-fits k noise blocks room) (public_never k (omega arith))))))
      (λ (whole, (count, misfit)). ((whole, count), misfit), λ ((whole, count), misfit). (whole, (count, misfit))));
  -- of what is lent, of a key by its version, and of a batch by its count
  open-batch = λ k batch noise room.
      fails_or WrongLength _ (opening-fits k batch noise room)
      (Iff.trans (key_or-batch-says k batch noise room (omega arith) (λ e. omega arith) (λ e. omega arith) (secret-misfit k) (batch-says_1 batch)) (
        ⊎_map (λ key. key) (λ (before, (count, misfit)). (before, count, misfit)),
        ⊎_map (λ key. key) (λ (before, count, misfit). (before, (count, misfit))),
      ));
}

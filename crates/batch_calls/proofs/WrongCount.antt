-- When 12 is said, and that no other call says it.
use mathlib.Core.Logic.Iff
use Prim.Native.Nat.{◌%◌}
use native.Mathlib.Omega.{arith}
use lib.ListN.{length}
use Rattle.answers.specs.declared.Refusal.TheVariants.{WrongCount}
use Rattle.answers.proofs.AnswerLaws.{then_never, fails-here}
use Rattle.records.specs.Records.{first_of, second_of, body_part, tag_part, c1_of, c2_of}
use Rattle.triples.specs.Triple.{triple_of}
use Rattle.triples.proofs.TripleLaws.{triple_never}
use Rattle.public_keys.proofs.PublicLaws.{public_never}
use Rattle.secret_keys.specs.SecretKeys.{elements_of}
use Rattle.secret_keys.proofs.SecretLaws.{secret_never}
use Rattle.keys.specs.Keys.{noise_triple}
use Rattle.calls.specs.Calls.{check_answer, encapsulate_answer, decapsulate_answer, seal_answer, open_answer, outcome}
use Rattle.calls.proofs.Lengths.{one-fits, header-fits, encapsulate-fits, decapsulate-fits, seal-fits, open-fits, says-after_lengths}
use Rattle.calls.proofs.Behind.{encapsulation-rest_never, entry-rest_never}
use Rattle.calls.proofs.LocatedExact.{never-after_lengths, keygen-others, seeded-keygen-others}
use Rattle.batch_calls.specs.Calls.{entries, seal_batch_answer, open_batch_answer}
use Rattle.batch_calls.specs.Promises.{WrongCountExact}
use Rattle.batch_calls.proofs.Lengths.{count_iff, sealing-fits, opening-fits}
use Rattle.batch_calls.proofs.BatchAnswers.{batch-says_12, batch-says}

pub wrong-count-exact : WrongCountExact
unfolding seal_batch_answer open_batch_answer check_answer encapsulate_answer decapsulate_answer seal_answer open_answer
wrong-count-exact = record {
  seal = λ k noise blocks room.
      says-after_lengths 12 _ (omega arith) (one-fits (length blocks % 16) 0)
      (fails-here WrongCount (count_iff (entries blocks))
      (record { never = never-after_lengths (omega arith) (sealing-fits k noise blocks room) (public_never k (omega arith)) }));
  open-batch = λ k batch noise room.
      Iff.trans (says-after_lengths 12 _ (omega arith) (opening-fits k batch noise room) Iff.rfl)
      (batch-says k batch noise room (secret_never k (omega arith) (λ e. omega arith)) (omega arith) (λ e. omega arith) (λ e. omega arith) (batch-says_12 batch));
  check_never = λ k. never-after_lengths (omega arith) (header-fits k) (secret_never k (omega arith) (λ e. omega arith));
  keygen_never = keygen-others 12 (omega arith) (λ e. omega arith) (λ e. omega arith);
  seeded-keygen_never = seeded-keygen-others 12 (omega arith) (λ e. omega arith) (λ e. omega arith);
  encapsulate_never = λ k t room.
      never-after_lengths (omega arith) (encapsulate-fits k t room)
      (then_never (public_never k (omega arith)) (triple_never (omega arith) (λ e. omega arith) t));
  decapsulate_never = λ k c d room.
      never-after_lengths (omega arith) (decapsulate-fits k c d room)
      (then_never (secret_never k (omega arith) (λ e. omega arith))
      (encapsulation-rest_never (omega arith) (λ e. omega arith) (λ e. omega arith) (λ e. omega arith) c d
      (outcome (elements_of k) (triple_of d) (c1_of c) (c2_of c))));
  seal_never = λ k noise entry room. never-after_lengths (omega arith) (seal-fits k noise entry room) (public_never k (omega arith));
  open_never = λ k sealed noise room.
      never-after_lengths (omega arith) (open-fits k sealed noise room)
      (then_never (secret_never k (omega arith) (λ e. omega arith))
      (entry-rest_never (omega arith) (λ e. omega arith) (omega arith) (λ e. omega arith) (λ e. omega arith) sealed
      (outcome (elements_of k) (noise_triple noise) (first_of sealed) (second_of sealed)) (body_part sealed) (tag_part sealed)));
}

-- When 8 is said.
use mathlib.Core.Logic.Iff
use native.Mathlib.Omega.{arith}
use Rattle.seeds.specs.Seeds.{seed_stream}
use Rattle.public_keys.specs.PublicKeys.{public_answer}
use Rattle.calls.specs.Calls.{keygen_answer, seeded_keygen_answer, encapsulate_answer, seal_answer}
use Rattle.calls.specs.Promises.{StreamExhaustedExact}
use Rattle.answers.proofs.AnswerLaws.{then-refuses}
use Rattle.triples.proofs.TripleLaws.{triple_never}
use Rattle.public_keys.proofs.PublicLaws.{public_exhausted}
use Rattle.keys.proofs.KeyLaws.{generated_exhausted}
use Rattle.calls.proofs.Lengths.{keygen-fits, seeded-keygen-fits, encapsulate-fits, seal-fits, says-after_lengths, of-encapsulate, of-seal, of-keygen}

pub stream_exhausted-exact : StreamExhaustedExact
unfolding keygen_answer seeded_keygen_answer encapsulate_answer seal_answer
stream_exhausted-exact = record {
  keygen = λ stream s e public secret.
      Iff.trans (says-after_lengths 8 _ (omega arith) (keygen-fits stream s e public secret) (generated_exhausted stream s e)) of-keygen;
  seeded-keygen = λ seed s e public secret.
      Iff.trans (says-after_lengths 8 _ (omega arith) (seeded-keygen-fits seed s e public secret) (generated_exhausted (seed_stream seed) s e)) of-keygen;
  encapsulate = λ k t room.
      Iff.trans
      (says-after_lengths 8 _ (omega arith) (encapsulate-fits k t room) (then-refuses (public_answer k) (omega arith) (triple_never (omega arith) (λ e. omega arith) t)))
      (of-encapsulate (public_exhausted k));
  seal = λ k noise entry room.
      Iff.trans (says-after_lengths 8 (public_answer k) (omega arith) (seal-fits k noise entry room) Iff.rfl) (of-seal (public_exhausted k));
}

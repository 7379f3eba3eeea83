-- Under any number but 0 the outputs are as they came.
use lib.ListN.{length}
use Rattle.answers.proofs.AnswerLaws.{on_refusal}
use Rattle.calls.specs.Calls.{keygen_answer, keygen_public, keygen_secret, seeded_keygen_answer, seeded_keygen_public, seeded_keygen_secret}
use Rattle.calls.specs.Calls.{encapsulate_answer, encapsulate_out, decapsulate_answer, decapsulate_out}
use Rattle.calls.specs.Calls.{seal_answer, seal_out, open_answer, open_out}
use Rattle.calls.specs.Promises.{Untouched}

pub untouched : Untouched
unfolding keygen_public keygen_secret seeded_keygen_public seeded_keygen_secret encapsulate_out decapsulate_out seal_out open_out
untouched = record {
  keygen = λ stream s e public secret refused.
      let answer = keygen_answer stream s e (length public) (length secret) in
      (on_refusal answer _ public refused, on_refusal answer _ secret refused);
  seeded-keygen = λ seed s e public secret refused.
      let answer = seeded_keygen_answer seed s e (length public) (length secret) in
      (on_refusal answer _ public refused, on_refusal answer _ secret refused);
  encapsulate = λ k t out refused. on_refusal (encapsulate_answer k t (length out)) _ out refused;
  decapsulate = λ k c d out refused. on_refusal (decapsulate_answer k c d (length out)) _ out refused;
  seal = λ k noise entry out refused. on_refusal (seal_answer k noise entry (length out)) _ out refused;
  open_entry = λ k sealed noise out refused. on_refusal (open_answer k sealed noise (length out)) _ out refused;
}

-- Under any number but 0 the outputs are as they came.
use lib.ListN.{length}
use Rattle.answers.proofs.AnswerLaws.{on_refusal}
use Rattle.conversion_calls.specs.Calls.{expand_answer, expand_out, compact_answer, compact_out}
use Rattle.conversion_calls.specs.Promises.{Untouched}

pub untouched : Untouched
unfolding expand_out compact_out
untouched = record {
  expand = λ k out refused. on_refusal (expand_answer k (length out)) _ out refused;
  compact = λ k out refused. on_refusal (compact_answer k (length out)) _ out refused;
}

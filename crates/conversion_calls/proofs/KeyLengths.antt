-- When 1 is said.
use mathlib.Core.Bool.{true, false}
use mathlib.Core.Logic.Iff
use native.Mathlib.Omega.{arith}
use Rattle.answers.specs.declared.Refusal.TheVariants.{WrongLength}
use Rattle.records.specs.Layout.{secret_key_length, expanded_key_length}
use Rattle.records.specs.Records.{first_of, second_of, body_part, tag_part, c1_of, c2_of}
use Rattle.triples.specs.Triple.{triple_of}
use Rattle.secret_keys.specs.SecretKeys.{elements_of, secret_answer}
use Rattle.keys.specs.Keys.{noise_triple}
use Rattle.calls.specs.Calls.{check_answer, decapsulate_answer, open_answer, outcome}
use Rattle.answers.proofs.AnswerLaws.{fails_or, then-refuses}
use Rattle.secret_keys.proofs.SecretLaws.{secret-misfit}
use Rattle.calls.proofs.Lengths.{header-fits, decapsulate-fits, open-fits}
use Rattle.calls.proofs.Behind.{encapsulation-rest_never, entry-rest_never}
use Rattle.conversion_calls.specs.Calls.{expand_answer, compact_answer}
use Rattle.conversion_calls.specs.Promises.{KeyLengthsExact}
use Rattle.conversion_calls.proofs.Converting.{convert-misfit}

pub key_lengths-exact : KeyLengthsExact
unfolding check_answer decapsulate_answer open_answer expand_answer compact_answer
key_lengths-exact = record {
  check = λ k. fails_or WrongLength (secret_answer k) (header-fits k) (Iff.and Iff.rfl (secret-misfit k));
  decapsulate = λ k c d room.
      fails_or WrongLength _ (decapsulate-fits k c d room)
      (Iff.and Iff.rfl
      (Iff.trans
      (then-refuses (secret_answer k) (omega arith)
      (encapsulation-rest_never (omega arith) (λ e. omega arith) (λ e. omega arith) (λ e. omega arith) c d (outcome (elements_of k) (triple_of d) (c1_of c) (c2_of c))))
      (secret-misfit k)));
  open_entry = λ k sealed noise room.
      fails_or WrongLength _ (open-fits k sealed noise room)
      (Iff.and Iff.rfl
      (Iff.trans
      (then-refuses (secret_answer k) (omega arith)
      (entry-rest_never (omega arith) (λ e. omega arith) (omega arith) (λ e. omega arith) (λ e. omega arith) sealed
      (outcome (elements_of k) (noise_triple noise) (first_of sealed) (second_of sealed)) (body_part sealed) (tag_part sealed)))
      (secret-misfit k)));
  expand = λ k room. convert-misfit k room expanded_key_length false;
  compact = λ k room. convert-misfit k room secret_key_length true;
}

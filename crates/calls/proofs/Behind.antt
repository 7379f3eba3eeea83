-- What stands behind the check of a key in the two openings, and which numbers it never says.
use mathlib.Core.Path.{◌≡◌}
use mathlib.Core.List.{List}
use Prim.Native.Nat.{ℕ, ◌<◌}
use Rattle.scheme.specs.Scheme.{Outcome, found, failed}
use Rattle.derivation.specs.Derivation.{is_genuine}
use Rattle.answers.specs.declared.Refusal.TheVariants.{TagMismatch}
use Rattle.answers.specs.Answers.{and_then}
use Rattle.records.specs.Records.{sealed_entry_answer, encapsulation_answer}
use Rattle.triples.specs.Triple.{triple_answer}
use Rattle.calls.specs.Calls.{outcome_answer, opened_answer}
use Rattle.answers.proofs.AnswerLaws.{Never, unless_never, done_never, then_never}
use Rattle.records.proofs.RecordLaws.{OneOrAbove, sealed_entry_never, encapsulation_never}
use Rattle.triples.proofs.TripleLaws.{triple_never}

module _ {n : ℕ} (some : 0 < n) (no-triple : ¬ (9 ≡ n)) where
  pub outcome_never : (o : Outcome) → Never n (outcome_answer o)
  outcome_never (found t) = done_never some
  outcome_never failed = record { never = no-triple }

  pub opened_never : ¬ (10 ≡ n) → (o : Outcome) (body tag : List ℕ) → Never n (opened_answer o body tag)
  opened_never bad-tag (found t) body tag = unless_never (is_genuine t.r t.e1 t.e2 body tag) TagMismatch bad-tag (done_never some)
  opened_never bad-tag failed body tag = record { never = no-triple }

  -- behind the words of an encapsulation, and with them
  pub behind-words_never : ¬ (5 ≡ n) → (d : List ℕ) (o : Outcome) → Never n (and_then (triple_answer d) (outcome_answer o))
  behind-words_never bad-code d o = then_never (triple_never some bad-code d) (outcome_never o)

  pub encapsulation-rest_never : ¬ (5 ≡ n) → ¬ (11 ≡ n) → (c d : List ℕ) (o : Outcome)
      → Never n (and_then (encapsulation_answer c) (and_then (triple_answer d) (outcome_answer o)))
  encapsulation-rest_never bad-code bad-word c d o = then_never (encapsulation_never some bad-word c) (behind-words_never bad-code d o)

  -- with the record of a sealed entry
  pub entry-rest_never : OneOrAbove 3 n → ¬ (10 ≡ n) → ¬ (11 ≡ n) → (e : List ℕ) (o : Outcome) (body tag : List ℕ)
      → Never n (and_then (sealed_entry_answer e) (opened_answer o body tag))
  entry-rest_never h bad-tag bad-word e o body tag = then_never (sealed_entry_never h bad-word e) (opened_never bad-tag o body tag)

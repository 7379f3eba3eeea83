-- What an outcome makes of answer and triple, and the quotients beside it.
use mathlib.Core.Path.{◌≡◌, refl}
use mathlib.Core.List.{List}
use Prim.Native.Nat.{ℕ}
use lib.IntN.{ℤ}
use Rattle.std.specs.Prelude.{Ok, Err, ok_or, is_some, unwrap_or}
use Rattle.std.specs.Result.{result_and}
use Rattle.lists.specs.Table.{zeros}
use Rattle.ring.specs.Ring.{n}
use Rattle.scheme.specs.Scheme.{Outcome, found, failed}
use Rattle.scheme.specs.Answers.{answer}
use Rattle.scheme.specs.declared.Triple as Declared
use Rattle.derivation.specs.Derivation.{is_genuine}
use Rattle.answers.specs.declared.Refusal.TheVariants.{DecapsulationFailure, TagMismatch}
use Rattle.answers.specs.Answers.{unless, and_then, Answer, Done}
use Rattle.calls.specs.Calls.{outcome_answer, opened_answer}
use Rattle.recovery.specs.Outcomes.{answered, with_parts}

-- zeros, where none was found
abbrev pub no_triple : Declared.Triple
no_triple = record { r = zeros n; e1 = zeros n; e2 = zeros n }

module _ (w : List ℤ) where
  -- 9 where no triple was found
  pub triple-given : (o : Outcome) → ok_or (answer o w).triple DecapsulationFailure ≡ and_then (outcome_answer o) (Ok (with_parts (answered o)))
  triple-given (found t) = refl
  triple-given failed = refl

  pub found-answer : (o : Outcome) → unless (is_some (answer o w).triple) DecapsulationFailure Done ≡ outcome_answer o
  found-answer (found t) = refl
  found-answer failed = refl

  pub found_triple : (o : Outcome) → unwrap_or (answer o w).triple no_triple ≡ with_parts (answered o)
  found_triple (found t) = refl
  found_triple failed = refl

  -- the quotients stand beside either
  pub found-quotients : (o : Outcome) → (answer o w).quotients ≡ w
  found-quotients (found t) = refl
  found-quotients failed = refl

-- std's word for what follows where an answer is done
pub and_is_then : (a b : Answer) → result_and a b ≡ and_then a b
and_is_then (Ok _) b = refl
and_is_then (Err r) b = refl

-- 9, then 10
pub verified-answer : (o : Outcome) (blocks tag : List ℕ)
    → and_then (outcome_answer o) (unless (is_genuine (answered o).r (answered o).e1 (answered o).e2 blocks tag) TagMismatch Done) ≡ opened_answer o blocks tag
verified-answer (found t) blocks tag = refl
verified-answer failed blocks tag = refl

-- Which word 4 names, and that codes are read back.
use mathlib.Core.Path.{◌≡◌, refl}
use mathlib.Core.Bool.{true, false}
use mathlib.Core.List.{List}
use Prim.Native.Nat.{ℕ}
use native.Mathlib.Omega.{arith}
use Rattle.answers.specs.Answers.{number}
use Rattle.records.specs.Layout.{secret_key_length, expanded_key_length}
use Rattle.secret_keys.proofs.SecretLaws.{secret_never}
use Rattle.calls.proofs.CodesRead.{secret-small, by_number}
use Rattle.conversion_calls.specs.Calls.{expand_answer, compact_answer}
use Rattle.conversion_calls.specs.Promises.{ConversionsNamed}
use Rattle.conversion_calls.proofs.Converting.{convert_never, convert_named}

pub conversions_named : ConversionsNamed
unfolding expand_answer compact_answer
conversions_named = record {
  expand = λ k room. convert_named k room expanded_key_length false;
  compact = λ k room. convert_named k room secret_key_length true;
  expand_never = expand-others;
  compact_never = compact-others;
  expand-code = λ k room.
      by_number (expand_answer k room) (λ e. secret-small k ((convert_named k room expanded_key_length false _).0 (e, refl)).0) (λ e. absurd ((expand-others k room).0 e));
  compact-code = λ k room.
      by_number (compact_answer k room) (λ e. secret-small k ((convert_named k room secret_key_length true _).0 (e, refl)).0) (λ e. absurd ((compact-others k room).0 e));
}
  where
    expand-others : (k : List ℕ) (room : ℕ) → ¬ (number (expand_answer k room) ≡ 11) × ¬ (number (expand_answer k room) ≡ 12)
    expand-others k room = (
      convert_never k room expanded_key_length false (omega arith) (secret_never k (omega arith) (λ e. omega arith)),
      convert_never k room expanded_key_length false (omega arith) (secret_never k (omega arith) (λ e. omega arith)),
    )

    compact-others : (k : List ℕ) (room : ℕ) → ¬ (number (compact_answer k room) ≡ 11) × ¬ (number (compact_answer k room) ≡ 12)
    compact-others k room = (
      convert_never k room secret_key_length true (omega arith) (secret_never k (omega arith) (λ e. omega arith)),
      convert_never k room secret_key_length true (omega arith) (secret_never k (omega arith) (λ e. omega arith)),
    )

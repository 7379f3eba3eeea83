-- The checks of key generation: when they say Done, when 6 and when 8.
use mathlib.Core.Path.{◌≡◌}
use mathlib.Core.Logic.Iff
use mathlib.Core.Logic.{◌↔◌}
use mathlib.Core.List.{List}
use Prim.Native.Nat.{ℕ, ◌<◌}
use native.Mathlib.Omega.{arith}
use lib.ListN.{length}
use Rattle.ring.specs.Ring.{Invertible}
use Rattle.sampling.specs.Stream.{taken}
use Rattle.answers.specs.Answers.{number, Done}
use Rattle.keys.specs.Keys.{keygen_b, generated_answer}
use Rattle.answers.proofs.AnswerLaws.{Never, then-done, then_never, then-says, then-refuses}
use Rattle.public_keys.specs.PublicKeys.{stream_answer}
use Rattle.public_keys.proofs.PublicLaws.{inverse-done, inverse_refused, inverse_never, stream-done, stream_refused, stream_never}

pub generated-done : (stream s e : List ℕ) → (generated_answer stream s e ≡ Done) ↔ ((length (taken stream) ≡ 1024) × Invertible (keygen_b stream s e))
unfolding generated_answer
generated-done stream s e =
    Iff.trans (then-done _ _) (Iff.and (stream-done stream) (inverse-done (keygen_b stream s e)))

pub generated_refused : (stream s e : List ℕ)
    → (number (generated_answer stream s e) ≡ 6) ↔ ((length (taken stream) ≡ 1024) × ¬ (Invertible (keygen_b stream s e)))
unfolding generated_answer
generated_refused stream s e =
    Iff.trans (then-says _ (stream_never (omega arith) (λ e. omega arith) stream)) (Iff.and (stream-done stream) (inverse_refused (keygen_b stream s e)))

pub generated_never : {number : ℕ} → 0 < number → ¬ (6 ≡ number) → ¬ (8 ≡ number) → (stream s e : List ℕ) → Never number (generated_answer stream s e)
unfolding generated_answer
generated_never some six eight stream s e = then_never (stream_never some eight stream) (inverse_never some six (keygen_b stream s e))

pub generated_exhausted : (stream s e : List ℕ) → (number (generated_answer stream s e) ≡ 8) ↔ ¬ (length (taken stream) ≡ 1024)
unfolding generated_answer
generated_exhausted stream s e = Iff.trans (then-refuses (stream_answer stream) (omega arith) (inverse_never (omega arith) (λ e. omega arith) (keygen_b stream s e))) (stream_refused stream)

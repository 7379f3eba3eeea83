-- When the check of a triple passes, and which numbers it never says.
use mathlib.Core.Path.{◌≡◌}
use mathlib.Core.Logic.Iff
use mathlib.Core.Logic.{◌↔◌}
use mathlib.Core.List.{List}
use Prim.Native.Nat.{ℕ, ◌<◌}
use Rattle.encoding.specs.Codes.{first_invalid_code}
use Rattle.answers.proofs.AnswerLaws.{then-done, Never, then_never}
use Rattle.records.specs.Records.{part}
use Rattle.records.proofs.RecordLaws.{codes-done, codes_never}
use Rattle.triples.specs.Triple.{triple_answer}
use Rattle.answers.specs.Answers.{Done}

pub triple-done : (bytes : List ℕ) → (triple_answer bytes ≡ Done)
    ↔ ((first_invalid_code (part 0 256 bytes) ≡ 1024) × (first_invalid_code (part 256 256 bytes) ≡ 1024) × (first_invalid_code (part 512 256 bytes) ≡ 1024))
unfolding triple_answer
triple-done bytes =
    Iff.trans
    (Iff.trans (then-done _ _)
    (Iff.and (codes-done (part 0 256 bytes))
    (Iff.trans (then-done _ _) (Iff.and (codes-done (part 256 256 bytes)) (codes-done (part 512 256 bytes))))))
    (λ (r, (e1, e2)). (r, e1, e2), λ (r, e1, e2). (r, (e1, e2)))

-- it says 5 only
pub triple_never : {k : ℕ} → 0 < k → ¬ (5 ≡ k) → (bytes : List ℕ) → Never k (triple_answer bytes)
unfolding triple_answer
triple_never some other bytes =
    then_never (codes_never some other (part 0 256 bytes))
    (then_never (codes_never some other (part 256 256 bytes)) (codes_never some other (part 512 256 bytes)))

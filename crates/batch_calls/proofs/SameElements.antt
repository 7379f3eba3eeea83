-- Equal a and b are sealed for alike, whatever the two records are.
use mathlib.Core.Path.{◌≡◌, sym, ap₂, ◌∙◌}
use mathlib.Core.Bool.{Bool, ◌&&◌}
use mathlib.Core.List.{List}
use Prim.Native.Nat.{ℕ, ◌%◌}
use lib.Dec.{eqb}
use lib.ListN.{length}
use Rattle.answers.specs.declared.Refusal.TheVariants.{WrongLength, WrongCount}
use Rattle.answers.specs.Answers.{unless, on_done, Answer}
use Rattle.answers.proofs.AnswerLaws.{number-done}
use Rattle.batch_records.specs.Batches.{batch_length, is_count}
use Rattle.public_keys.specs.PublicKeys.{public_a, public_b, public_answer}
use Rattle.keys.specs.Keys.{triple_noise_length, noise_triple}
use Rattle.calls.specs.Promises.{PublicAccepted}
use Rattle.batch_calls.specs.Calls.{entries, seal_batch_answer, batch_with, sealed_batch, seal_batch_out}
use Rattle.batch_calls.specs.Promises.{SameElements}

-- both lengths fit and both checks pass, so the answers are the same
answers : (p p' noise blocks : List ℕ) (room : ℕ) → PublicAccepted p → PublicAccepted p'
    → seal_batch_answer p noise blocks room ≡ seal_batch_answer p' noise blocks room
unfolding seal_batch_answer
answers p p' noise blocks room (size, checked) (size', checked') =
    ap₂ (λ (fits : Bool) (a : Answer).
    unless (eqb (length blocks % 16) 0) WrongLength
    (unless (is_count (entries blocks)) WrongCount
    (unless (fits && eqb (length noise) triple_noise_length && eqb room (batch_length (entries blocks))) WrongLength a)))
    (size ∙ sym size') ((number-done (public_answer p)).0 checked ∙ sym ((number-done (public_answer p')).0 checked'))

-- .. and so is what is written
outputs : (p p' noise blocks out : List ℕ) → PublicAccepted p → PublicAccepted p' → public_a p ≡ public_a p' → public_b p ≡ public_b p'
    → seal_batch_out p noise blocks out ≡ seal_batch_out p' noise blocks out
unfolding seal_batch_out sealed_batch
outputs p p' noise blocks out h h' same-a same-b =
    ap₂ (λ (a : Answer) (new : List ℕ). on_done a new out) (answers p p' noise blocks (length out) h h')
    (ap₂ (λ (a b : List ℕ). batch_with a b (noise_triple noise) blocks) same-a same-b)

pub same-elements : SameElements
same-elements = record {
  sealed = λ p p' noise blocks out h h' a b. (answers p p' noise blocks (length out) h h', outputs p p' noise blocks out h h' a b);
}

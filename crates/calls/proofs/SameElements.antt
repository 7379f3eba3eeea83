-- Equal a and b are sealed for alike, whatever the two records are.
use mathlib.Core.Path.{◌≡◌, sym, ap, ap₂, ◌∙◌}
use mathlib.Core.Bool.{Bool, true, ◌&&◌}
use mathlib.Core.List.{List}
use Prim.Native.Nat.{ℕ}
use lib.Dec.{eqb}
use lib.ListN.{length}
use Rattle.answers.specs.declared.Refusal.TheVariants.{WrongLength}
use Rattle.answers.specs.Answers.{unless, and_then, on_done, Answer}
use Rattle.triples.specs.Triple.{triple_of, triple_answer}
use Rattle.public_keys.specs.PublicKeys.{is_public_length, public_a, public_b, public_answer}
use Rattle.keys.specs.Keys.{noise_triple}
use Rattle.calls.specs.Calls.{encapsulate_answer, encapsulated_with, encapsulate_out, seal_answer, sealed_with, sealed_bytes, seal_out}
use Rattle.calls.specs.Promises.{PublicAccepted, SameElements}
use Rattle.answers.proofs.AnswerLaws.{number-done}

module _ (p p' : List ℕ) (accepted : PublicAccepted p) (accepted' : PublicAccepted p') (same-a : public_a p ≡ public_a p') (same-b : public_b p ≡ public_b p') where
  lengths : is_public_length (length p) ≡ is_public_length (length p')
  lengths = accepted.0 ∙ sym accepted'.0

  checks : public_answer p ≡ public_answer p'
  checks = (number-done (public_answer p)).0 accepted.1 ∙ sym ((number-done (public_answer p')).0 accepted'.1)

  seal-answers : (noise entry : List ℕ) (room : ℕ) → seal_answer p noise entry room ≡ seal_answer p' noise entry room
  unfolding seal_answer
  seal-answers noise entry room =
      ap₂ (λ (fits : Bool) (a : Answer). unless (fits && eqb (length noise) 1536 && eqb (length entry) 16 && eqb room 4133) WrongLength a) lengths checks

  encapsulate-answers : (t : List ℕ) (room : ℕ) → encapsulate_answer p t room ≡ encapsulate_answer p' t room
  unfolding encapsulate_answer
  encapsulate-answers t room =
      ap₂ (λ (fits : Bool) (a : Answer). unless (fits && eqb (length t) 768 && eqb room 4096) WrongLength (and_then a (triple_answer t))) lengths checks

  seal-outputs : (noise entry out : List ℕ) → seal_out p noise entry out ≡ seal_out p' noise entry out
  unfolding seal_out sealed_bytes
  seal-outputs noise entry out =
      ap₂ (λ (a : Answer) (new : List ℕ). on_done a new out) (seal-answers noise entry (length out))
      (ap₂ (λ (a b : List ℕ). sealed_with a b (noise_triple noise) entry) same-a same-b)

  encapsulate-outputs : (t out : List ℕ) → encapsulate_out p t out ≡ encapsulate_out p' t out
  unfolding encapsulate_out
  encapsulate-outputs t out =
      ap₂ (λ (a : Answer) (new : List ℕ). on_done a new out) (encapsulate-answers t (length out))
      (ap₂ (λ (a b : List ℕ). encapsulated_with a b (triple_of t)) same-a same-b)

pub same-elements : SameElements
same-elements = record {
  sealed = λ p p' noise entry out h h' a b. (seal-answers p p' h h' a b noise entry (length out), seal-outputs p p' h h' a b noise entry out);
  encapsulated = λ p p' t out h h' a b. (encapsulate-answers p p' h h' a b t (length out), encapsulate-outputs p p' h h' a b t out);
}

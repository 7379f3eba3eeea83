-- The elements of a secret key of either version: those of a well-formed record, and that a sound key has the inverse of its b.
use mathlib.Core.Path.{◌≡◌, refl, sym, ap, ◌∙◌}
use mathlib.Core.Bool.{Bool, true, false}
use mathlib.Core.List.{List}
use Prim.Native.Nat.{ℕ}
use Rattle.exactness.specs.Scheme.{SoundKey}
use Rattle.ring.specs.Ring.{Element, Invertible}
use Rattle.ring.specs.Invertible.{inverse_of}
use Rattle.ring.proofs.RingLaws.{inverse_is}
use Rattle.scheme.specs.Scheme.{setting}
use Rattle.scheme.proofs.Exactness.{sound-key}
use Rattle.encoding.proofs.Words.{length-element_of}
use Rattle.encoding.proofs.Codes.{ternary_of-ternary}
use Rattle.records.specs.Records.{first_of, second_of, secret_of, stored_inverse}
use Rattle.answers.proofs.AnswerLaws.{on_done_lem}
use Rattle.secret_keys.specs.SecretKeys.{is_expanded, inverse_in, parts_of, no_elements, elements_of, secret_answer}
use Rattle.secret_keys.specs.WellFormed.{WellFormedAs, UnitAs}
use Rattle.secret_keys.proofs.SecretLaws.{passes, secret-done, second-words}
use Rattle.answers.specs.Answers.{Done}

module _ (k : List ℕ) where
  pub elements_of_lem : (expanded : Bool) → WellFormedAs expanded k → elements_of k ≡ parts_of expanded k
  unfolding elements_of
  elements_of_lem expanded w =
      let p = passes k expanded w in
      on_done_lem (parts_of (is_expanded k) k) no_elements p.layout ∙ ap (λ (x : Bool). parts_of x k) p.kind

  -- b has an inverse in either version
  pub unit-invertible : (expanded : Bool) → WellFormedAs expanded k → UnitAs expanded k → Invertible (second_of k)
  unit-invertible false w unit = unit
  unit-invertible true w unit = (stored_inverse k, w.inverse-words, unit)

  -- .. and that is the one it holds
  pub inverse_held : (expanded : Bool) → WellFormedAs expanded k → UnitAs expanded k → inverse_in expanded k ≡ inverse_of (second_of k)
  inverse_held false w unit = refl
  inverse_held true w unit = sym (inverse_is (second_of k) (stored_inverse k) (length-element_of _) w.inverse-words unit)

  pub first-words : (expanded : Bool) → WellFormedAs expanded k → Element (first_of k)
  first-words false w = w.front.first-words
  first-words true w = w.front.first-words

  -- a key that passes every check, by its elements
  pub secret-elements : secret_answer k ≡ Done → elements_of k ≡ record { a = first_of k; b = second_of k; s = secret_of k; inverse = inverse_of (second_of k) }
  secret-elements e =
      let (expanded, w, unit, matches) = (secret-done k).0 e in
      elements_of_lem expanded w ∙ ap (λ (i : List ℕ). record { a = first_of k; b = second_of k; s = secret_of k; inverse = i }) (inverse_held expanded w unit)

  pub secret-sound : secret_answer k ≡ Done → SoundKey setting (first_of k) (second_of k) (inverse_of (second_of k)) (secret_of k)
  secret-sound e =
      let (expanded, w, unit, matches) = (secret-done k).0 e in
      sound-key (first_of k) (second_of k) (secret_of k) (first-words expanded w) (second-words k expanded w) (ternary_of-ternary _)
      (unit-invertible expanded w unit) matches

-- The checks of a record, one after the other.
use mathlib.Core.Path.{◌≡◌, refl, sym, ap, ap₂, ◌∙◌}
use mathlib.Core.Bool.{Bool, true, false}
use mathlib.Core.List.{List}
use Prim.Native.Nat.{ℕ}
use lib.Dec.{eqb}
use Rattle.encoding.specs.Words.{first_unreduced}
use Rattle.encoding.specs.Header.{has_mark, version_of}
use Rattle.answers.specs.declared.KeyRecord.TheVariants.{SeededPublicKey}
use Rattle.answers.specs.declared.Refusal.{Refusal}
use Rattle.answers.specs.declared.Refusal.TheVariants.{WrongMark, WrongVersion}
use Rattle.answers.specs.Answers.{unless, and_then, Answer, Done}
use Rattle.records.specs.Layout.{seeded_key_mark}
use Rattle.records.specs.Records.{first_of, second_of, header_answer, b_word, place_answer, words_answer, elements_answer, record_answer, seeded_b, seeded_record_answer}
use Rattle.std.specs.Prelude.{Err}

module _ (mark : List ℕ) (version : ℕ) (bytes : List ℕ) where
  abbrev judged : Bool → Bool → Answer
  judged m v = unless m WrongMark (unless v WrongVersion Done)

  pub wrong_mark : has_mark mark bytes ≡ false → Err WrongMark ≡ header_answer mark version bytes
  unfolding header_answer
  wrong_mark m = sym (ap (λ (b : Bool). judged b (eqb (version_of bytes) version)) m)

  pub wrong_version : has_mark mark bytes ≡ true → eqb (version_of bytes) version ≡ false → Err WrongVersion ≡ header_answer mark version bytes
  unfolding header_answer
  wrong_version m v = sym (ap₂ judged m v)

  pub header-done : has_mark mark bytes ≡ true → eqb (version_of bytes) version ≡ true → Done ≡ header_answer mark version bytes
  unfolding header_answer
  header-done m v = sym (ap₂ judged m v)

-- the words of two elements, from their places
pub words_checked : (one other : ℕ → Refusal) (first second : List ℕ) {a : Answer} {i j : ℕ} → (i ≡ first_unreduced first) × (j ≡ first_unreduced second)
    → a ≡ and_then (place_answer i (one i)) (place_answer j (other j)) → a ≡ elements_answer one other first second
unfolding words_answer elements_answer
words_checked one other first second (ei, ej) f = f ∙ ap₂ (λ (i j : ℕ). and_then (place_answer i (one i)) (place_answer j (other j))) ei ej

-- the front of a record, from what was read of it
pub front_checked : (mark : List ℕ) (version : ℕ) (one other : ℕ → Refusal) (bytes : List ℕ) {h a : Answer} {i j : ℕ} → h ≡ header_answer mark version bytes
    → (i ≡ first_unreduced (first_of bytes)) × (j ≡ first_unreduced (second_of bytes))
    → a ≡ and_then h (and_then (place_answer i (one i)) (place_answer j (other j))) → a ≡ record_answer mark version one other bytes
unfolding record_answer
front_checked mark version one other bytes e places f = f ∙ ap₂ and_then e (words_checked one other (first_of bytes) (second_of bytes) places refl)

-- a seeded key's record
pub seeded_checked : (bytes : List ℕ) {h a : Answer} {i : ℕ} → h ≡ header_answer seeded_key_mark 1 bytes → i ≡ first_unreduced (seeded_b bytes)
    → a ≡ and_then h (place_answer i (b_word SeededPublicKey i)) → a ≡ seeded_record_answer bytes
unfolding words_answer seeded_record_answer
seeded_checked bytes e ei f = f ∙ ap₂ and_then e (ap (λ (i : ℕ). place_answer i (b_word SeededPublicKey i)) ei)

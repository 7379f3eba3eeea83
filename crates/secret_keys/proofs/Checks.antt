-- Each check of a secret key of either version: when it says Done, when it says its number, and which numbers it never says.
use mathlib.Core.Path.{◌≡◌, refl, sym, ap, ◌∙◌}
use mathlib.Core.Bool.{Bool, true, false, decide, false≢true, ◌||◌}
use mathlib.Core.Logic.Iff
use mathlib.Core.Logic.{◌↔◌, ◌⊎◌, inl, inr}
use mathlib.Core.List.{List}
use Prim.Native.Nat.{ℕ, ◌<◌, ◌≤◌}
use native.Mathlib.Omega.{arith}
use lib.Dec.{eqb}
use lib.ListN.{length}
use borrow.Author.Tests.{eq-eqb, ne_eqb}
use Rattle.ring.specs.Ring.{Element}
use Rattle.ring.specs.Invertible.{is_inverse}
use Rattle.ring.specs.Centred.{is_within}
use Rattle.scheme.specs.Scheme.{key_error}
use Rattle.scheme.proofs.Keys.{key-matches}
use Rattle.encoding.specs.Header.{has_mark, version_of}
use Rattle.encoding.proofs.Words.{length-element_of}
use Rattle.answers.specs.declared.KeyRecord.TheVariants.{SecretKey}
use Rattle.answers.specs.declared.Refusal.TheVariants.{WrongLength, WrongMark, WrongVersion, KeyMismatch, InverseMismatch}
use Rattle.answers.specs.declared.Location.{Location}
use Rattle.answers.specs.Answers.{number, Done}
use Rattle.answers.specs.Locations.{secret_key, a_part, b_part, stored_inverse_part, Names}
use Rattle.records.specs.Layout.{secret_key_mark, secret_key_version, expanded_key_version, secret_key_length}
use Rattle.records.specs.Records.{first_of, second_of, secret_of, stored_inverse, a_word, b_word, inverse_word, elements_answer}
use Rattle.records.specs.Named.{NamedInTwo, NamedInThree}
use Rattle.answers.proofs.AnswerLaws.{Never, done_never, unless-done, unless-says, unless_never, unless-refuses, decided-done, decided-refuses, then-done, then_never, names-first}
use Rattle.records.proofs.RecordLaws.{equal-done, one_of_two, words-done, elements-done, test_never, words_never, elements_never}
use Rattle.records.proofs.NamedWords.{a_word_lem, b_word_lem, inverse_word_lem, elements_named, three_named}
use Rattle.public_keys.proofs.PublicLaws.{inverse-done, inverse_refused, inverse_never}
use Rattle.secret_keys.specs.SecretKeys.{is_expanded, length_of, layout_answer, stored_words_answer, secret_words_answer, unit_answer, match_answer}
use Rattle.secret_keys.specs.WellFormed.{UnitAs, Matches, HasLayout, LengthMisfits}

-- ---- mark, version and length

-- the number of a version
abbrev pub version_in : (expanded : Bool) → ℕ
version_in true = expanded_key_version
version_in false = secret_key_version

module _ (k : List ℕ) where
  pub is_version : (expanded : Bool) → version_of k ≡ version_in expanded → is_expanded k ≡ expanded
  is_version true e = eq-eqb (version_of k) expanded_key_version e
  is_version false e = ne_eqb (version_of k) expanded_key_version (λ f. omega arith)

  layout_by_tests : (layout_answer k ≡ Done)
      ↔ ((has_mark secret_key_mark k ≡ true) × (((version_of k ≡ secret_key_version) ⊎ (version_of k ≡ expanded_key_version)) × (length k ≡ length_of (is_expanded k))))
  unfolding layout_answer
  layout_by_tests =
      Iff.trans (unless-done (has_mark secret_key_mark k) WrongMark _)
      (Iff.and Iff.rfl
      (Iff.trans (unless-done _ WrongVersion _)
      (Iff.and (one_of_two (version_of k) secret_key_version expanded_key_version) (equal-done (length k) (length_of (is_expanded k)) WrongLength))))

  -- the length is that of the version, and holds a, b and s
  pub layout-size : layout_answer k ≡ Done → length k ≡ length_of (is_expanded k)
  layout-size e = (layout_by_tests.0 e).1.1

  pub layout_long : layout_answer k ≡ Done → secret_key_length ≤ length k
  layout_long e = omega (arith, layout-size e, least (is_expanded k))
    where
      least : (expanded : Bool) → secret_key_length ≤ length_of expanded
      least true = omega arith
      least false = omega arith

  -- of a record of the version that it is said to have
  pub layout-done : (expanded : Bool) → is_expanded k ≡ expanded → (layout_answer k ≡ Done) ↔ HasLayout (length_of expanded) (version_in expanded) k
  layout-done expanded kind = (
    λ e. let (mark, (version, size)) = layout_by_tests.0 e in (size ∙ ap length_of kind, mark, of expanded kind version),
    λ (size, mark, version). layout_by_tests.1 (mark, (either expanded version, size ∙ ap length_of (sym kind))),
  )
    where
      of : (expanded : Bool) → is_expanded k ≡ expanded → (version_of k ≡ secret_key_version) ⊎ (version_of k ≡ expanded_key_version) → version_of k ≡ version_in expanded
      of true kind (inr e) = e
      of true kind (inl e) = absurd (false≢true (sym (is_version false e) ∙ kind))
      of false kind (inl e) = e
      of false kind (inr e) = absurd (false≢true (sym kind ∙ is_version true e))

      either : (expanded : Bool) → version_of k ≡ version_in expanded → (version_of k ≡ secret_key_version) ⊎ (version_of k ≡ expanded_key_version)
      either true e = inr e
      either false e = inl e

  -- 1
  pub layout-misfit : (number (layout_answer k) ≡ 1) ↔ LengthMisfits k
  unfolding layout_answer
  layout-misfit =
      Iff.trans (unless-says 1 (has_mark secret_key_mark k) WrongMark _ (λ e. omega arith))
      (Iff.trans
      (Iff.and Iff.rfl
      (Iff.trans (unless-says 1 _ WrongVersion _ (λ e. omega arith))
      (Iff.and (one_of_two (version_of k) secret_key_version expanded_key_version) (Iff.trans (unless-refuses _ WrongLength) (unequal (length k) _)))))
      (λ (m, (v, s)). record { marked = m; has_version = v; misfit = s }, λ h. (h.marked, (h.has_version, h.misfit))))
    where
      unequal : (i j : ℕ) → (eqb i j ≡ false) ↔ ¬ (i ≡ j)
      unequal i j = (λ e same. false≢true (sym e ∙ eq-eqb i j same), ne_eqb i j)

  -- it says 1, 2 and 3 only
  pub layout_never : {n : ℕ} → 3 < n → Never n (layout_answer k)
  unfolding layout_answer
  layout_never h =
      unless_never (has_mark secret_key_mark k) WrongMark (λ e. omega arith)
      (unless_never (eqb (version_of k) secret_key_version || is_expanded k) WrongVersion (λ e. omega arith)
      (test_never (omega arith) (eqb (length k) (length_of (is_expanded k))) WrongLength (λ e. omega arith)))

-- ---- words

abbrev pub WordsAs : (expanded : Bool) (key : List ℕ) → Type 0
WordsAs false k = Element (first_of k) × Element (second_of k)
WordsAs true k = (Element (first_of k) × Element (second_of k)) × Element (stored_inverse k)

pub secret-words-done : (expanded : Bool) (k : List ℕ) → (secret_words_answer expanded k ≡ Done) ↔ WordsAs expanded k
unfolding secret_words_answer stored_words_answer
secret-words-done expanded k = Iff.trans (then-done _ _) (Iff.trans (Iff.and pair Iff.rfl) (of expanded))
  where
    pair : (elements_answer (a_word SecretKey) (b_word SecretKey) (first_of k) (second_of k) ≡ Done) ↔ (Element (first_of k) × Element (second_of k))
    pair = elements-done (a_word SecretKey) (b_word SecretKey) (first_of k) (second_of k) (length-element_of _) (length-element_of _)

    of : (expanded : Bool) → ((Element (first_of k) × Element (second_of k)) × (stored_words_answer expanded k ≡ Done)) ↔ WordsAs expanded k
    of false = (λ (both, _). both, λ both. (both, refl))
    of true = Iff.and Iff.rfl (words-done inverse_word (stored_inverse k) (length-element_of _))

pub secret-words_never : {n : ℕ} → 0 < n → ¬ (4 ≡ n) → (expanded : Bool) (k : List ℕ) → Never n (secret_words_answer expanded k)
unfolding secret_words_answer stored_words_answer
secret-words_never {n} some other expanded k =
    then_never (elements_never some (a_word SecretKey) (b_word SecretKey) (first_of k) (second_of k) (λ i. other) (λ i. other)) (stored expanded)
  where
    stored : (expanded : Bool) → Never n (stored_words_answer expanded k)
    stored false = done_never some
    stored true = words_never some inverse_word (stored_inverse k) (λ i. other)

abbrev pub NamedAs : (expanded : Bool) (key : List ℕ) (l : Location) → Type 0
NamedAs false k l = NamedInTwo secret_key a_part b_part (first_of k) (second_of k) l
NamedAs true k l = NamedInThree secret_key a_part b_part stored_inverse_part (first_of k) (second_of k) (stored_inverse k) l

pub secret-words_named : (expanded : Bool) (k : List ℕ) (l : Location) → Names 4 l (secret_words_answer expanded k) ↔ NamedAs expanded k l
unfolding secret_words_answer stored_words_answer
secret-words_named false k l =
    Iff.trans (names-first (elements_answer (a_word SecretKey) (b_word SecretKey) (first_of k) (second_of k)) (omega arith) (done_never (omega arith)))
    (elements_named (omega arith) (a_word_lem SecretKey (λ p. refl)) (b_word_lem SecretKey (λ p. refl)) (first_of k) (second_of k) l (length-element_of _) (length-element_of _))
secret-words_named true k l =
    three_named (omega arith) (a_word_lem SecretKey (λ p. refl)) (b_word_lem SecretKey (λ p. refl)) inverse_word_lem (first_of k) (second_of k) (stored_inverse k) l
    (length-element_of _) (length-element_of _) (length-element_of _)

-- ---- 6 and 13

pub unit-done : (expanded : Bool) (k : List ℕ) → (unit_answer expanded k ≡ Done) ↔ UnitAs expanded k
unfolding unit_answer
unit-done false k = inverse-done (second_of k)
unit-done true k = decided-done (is_inverse (second_of k) (stored_inverse k)) InverseMismatch

-- the number of each version
abbrev pub unit_number : (expanded : Bool) → ℕ
unit_number false = 6
unit_number true = 13

pub unit_refused : (expanded : Bool) (k : List ℕ) → (number (unit_answer expanded k) ≡ unit_number expanded) ↔ ¬ (UnitAs expanded k)
unfolding unit_answer
unit_refused false k = inverse_refused (second_of k)
unit_refused true k = decided-refuses (is_inverse (second_of k) (stored_inverse k)) InverseMismatch

pub unit_never : {n : ℕ} → 0 < n → (expanded : Bool) → ¬ (unit_number expanded ≡ n) → (k : List ℕ) → Never n (unit_answer expanded k)
unfolding unit_answer
unit_never some false other k = inverse_never some other (second_of k)
unit_never some true other k = test_never some (decide (is_inverse (second_of k) (stored_inverse k))) InverseMismatch other

-- ---- 7

pub match-done : (k : List ℕ) → Element (second_of k) → (match_answer k ≡ Done) ↔ Matches k
unfolding match_answer
match-done k h =
    Iff.trans (unless-done (is_within 1 (key_error (first_of k) (second_of k) (secret_of k))) KeyMismatch Done)
    (λ (e, _). (key-matches (first_of k) (second_of k) (secret_of k) h).0 e, λ m. ((key-matches (first_of k) (second_of k) (secret_of k) h).1 m, refl))

pub match_never : {n : ℕ} → 0 < n → ¬ (7 ≡ n) → (k : List ℕ) → Never n (match_answer k)
unfolding match_answer
match_never some other k = test_never some (is_within 1 (key_error (first_of k) (second_of k) (secret_of k))) KeyMismatch other

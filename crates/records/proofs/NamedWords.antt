-- Words that are named: the checks of a record's words name the first that is q or more, and no other.
use mathlib.Core.Path.{◌≡◌, refl, sym, ap, ◌∙◌}
use mathlib.Core.Bool.{Bool, true, false}
use mathlib.Core.Logic.Iff
use mathlib.Core.Logic.{◌↔◌, ◌⊎◌, ⊎_map}
use mathlib.Core.List.{List}
use Prim.Native.Nat.{ℕ, ◌<◌}
use native.Mathlib.Omega.{arith}
use lib.Dec.{eqb}
use lib.ListN.{length}
use borrow.Author.Tests.{eqb-false, ne_eqb}
use Rattle.ring.specs.Ring.{q, n}
use Rattle.encoding.specs.Words.{first_unreduced}
use Rattle.encoding.specs.Header.{has_mark, version_of}
use Rattle.encoding.proofs.Words.{length-element_of, from-within, from_found, from-before, from-unique}
use Rattle.answers.specs.declared.KeyPart.{KeyPart}
use Rattle.answers.specs.declared.KeyPart.TheVariants.{A, B}
use Rattle.answers.specs.declared.KeyRecord.{KeyRecord}
use Rattle.answers.specs.declared.KeyRecord.TheVariants.{PublicKey, SeededPublicKey}
use Rattle.answers.specs.declared.EncapsulationPart.{EncapsulationPart}
use Rattle.answers.specs.declared.EncapsulationPart.TheVariants.{C1, C2}
use Rattle.answers.specs.declared.EncapsulationRecord.{EncapsulationRecord}
use Rattle.answers.specs.declared.EncapsulationRecord.TheVariants.{SealedEntry, Encapsulation}
use Rattle.answers.specs.declared.Refusal.{Refusal}
use Rattle.answers.specs.declared.Location.{Location}
use Rattle.answers.specs.Answers.{refusal_number, unless, and_then, Done}
use Rattle.answers.specs.Locations.{at, public_key, seeded_public_key, secret_key, sealed_entry, encapsulation, a_part, b_part, stored_inverse_part, c1_part, c2_part}
use Rattle.answers.specs.Locations.{in_key_part, in_key, in_encapsulation_part, in_encapsulation, refusal_location, Names}
use Rattle.answers.proofs.AnswerLaws.{then_names, names_either}
use Rattle.records.specs.Layout.{public_key_mark, seeded_key_mark, sealed_entry_mark}
use Rattle.records.specs.Records.{a_word, b_word, inverse_word, c1_word, c2_word, words_answer, elements_answer, first_of, second_of, record_answer}
use Rattle.records.specs.Records.{public_front_answer, sealed_entry_answer, seeded_b, seeded_record_answer, c1_of, c2_of, encapsulation_answer}
use Rattle.records.specs.Named.{FirstUnreduced, Named, NamedInTwo, NamedInThree}
use Rattle.records.proofs.RecordLaws.{header-done, header_never, words-done, elements-done}

-- the refusal of word i has number k and names word i of part p of a record of kind r
pub record WordOf (k r p : ℕ) (word : ℕ → Refusal) : Type 0 where
  pub numbered : (i : ℕ) → refusal_number (word i) ≡ k
  pub located : (i : ℕ) → refusal_location (word i) ≡ at r p i

pub a_word_lem : (key : KeyPart → KeyRecord) {r : ℕ} → ((p : KeyPart) → in_key (key p) ≡ in_key_part r p) → WordOf 4 r a_part (a_word key)
a_word_lem key kind = record { numbered = λ i. refl; located = λ i. kind (A i) }

pub b_word_lem : (key : KeyPart → KeyRecord) {r : ℕ} → ((p : KeyPart) → in_key (key p) ≡ in_key_part r p) → WordOf 4 r b_part (b_word key)
b_word_lem key kind = record { numbered = λ i. refl; located = λ i. kind (B i) }

pub inverse_word_lem : WordOf 4 secret_key stored_inverse_part inverse_word
inverse_word_lem = record { numbered = λ i. refl; located = λ i. refl }

pub c1_word_lem : (holder : EncapsulationPart → EncapsulationRecord) {r : ℕ} → ((p : EncapsulationPart) → in_encapsulation (holder p) ≡ in_encapsulation_part r p)
    → WordOf 11 r c1_part (c1_word holder)
c1_word_lem holder kind = record { numbered = λ i. refl; located = λ i. kind (C1 i) }

pub c2_word_lem : (holder : EncapsulationPart → EncapsulationRecord) {r : ℕ} → ((p : EncapsulationPart) → in_encapsulation (holder p) ≡ in_encapsulation_part r p)
    → WordOf 11 r c2_part (c2_word holder)
c2_word_lem holder kind = record { numbered = λ i. refl; located = λ i. kind (C2 i) }

-- ---- one element

found_first : (words : List ℕ) → length words ≡ n → ¬ (first_unreduced words ≡ n) → FirstUnreduced words (first_unreduced words)
found_first words size some =
    let within : first_unreduced words < n = omega (arith, from-within q words, some) in record {
      within = within;
      before = from-before q words;
      here = from_found q words (omega arith);
    }

module _ {k r p : ℕ} {word : ℕ → Refusal} (some : 0 < k) (of : WordOf k r p word) where
  pub words_named : (words : List ℕ) (l : Location) → length words ≡ n
      → Names k l (words_answer word words) ↔ Named r p words l
  unfolding words_answer
  words_named words l size = (λ e. to (eqb place n) refl e, λ (i, e, first). from i e first)
    where
      place : ℕ
      place = first_unreduced words

      to : (t : Bool) → eqb place n ≡ t → Names k l (unless t (word place) Done) → Named r p words l
      to true passed (e, f) = absurd (omega arith)
      to false failed (e, f) = (place, sym f ∙ of.located place, found_first words size (eqb-false place n failed))

      from : (i : ℕ) → l ≡ at r p i → FirstUnreduced words i → Names k l (unless (eqb place n) (word place) Done)
      from i e first =
          let here : place ≡ i = from-unique q words i (omega (arith, first.within)) first.before first.here in
          let failed : eqb place n ≡ false = ne_eqb place n (λ f. omega (arith, first.within)) in
          rw failed (of.numbered place, of.located place ∙ ap (at r p) here ∙ sym e)

-- ---- two elements

pub either_iff : {A B C D : Type 0} → A ↔ C → B ↔ D → (A ⊎ B) ↔ (C ⊎ D)
either_iff f g = (⊎_map f.0 g.0, ⊎_map f.1 g.1)

pub elements_named : {k r p p' : ℕ} {one other : ℕ → Refusal} → 0 < k → WordOf k r p one → WordOf k r p' other
    → (first second : List ℕ) (l : Location) → length first ≡ n → length second ≡ n
    → Names k l (elements_answer one other first second) ↔ NamedInTwo r p p' first second l
unfolding elements_answer
elements_named {one = one} some of_one of_other first second l h1 h2 =
    Iff.trans (names_either _ _ some)
    (either_iff (words_named some of_one first l h1) (Iff.and (words-done one first h1) (words_named some of_other second l h2)))

-- and a third
pub three_named : {k r p p' p'' : ℕ} {one other last : ℕ → Refusal} → 0 < k → WordOf k r p one → WordOf k r p' other → WordOf k r p'' last
    → (first second third : List ℕ) (l : Location) → length first ≡ n → length second ≡ n → length third ≡ n
    → Names k l (and_then (elements_answer one other first second) (words_answer last third)) ↔ NamedInThree r p p' p'' first second third l
three_named {one = one} {other = other} some of_one of_other of-last first second third l h1 h2 h3 =
    Iff.trans (names_either _ _ some)
    (either_iff (elements_named some of_one of_other first second l h1 h2)
    (Iff.trans (Iff.and (elements-done one other first second h1 h2) (words_named some of-last third l h3))
    (λ ((e1, e2), named). (e1, e2, named), λ (e1, e2, named). ((e1, e2), named))))

-- ---- records

-- mark and version pass, and then a word is named
pub record_named : {k r p p' : ℕ} {one other : ℕ → Refusal} → 3 < k → WordOf k r p one → WordOf k r p' other
    → (mark : List ℕ) (version : ℕ) (bytes : List ℕ) (l : Location)
    → Names k l (record_answer mark version one other bytes)
    ↔ ((has_mark mark bytes ≡ true) × (version_of bytes ≡ version) × NamedInTwo r p p' (first_of bytes) (second_of bytes) l)
unfolding record_answer
record_named h of_one of_other mark version bytes l =
    Iff.trans
    (Iff.trans (then_names _ (header_never (omega arith) mark version bytes))
    (Iff.and (header-done mark version bytes)
    (elements_named (omega arith) of_one of_other (first_of bytes) (second_of bytes) l (length-element_of _) (length-element_of _))))
    (λ ((m, v), named). (m, v, named), λ (m, v, named). ((m, v), named))

pub seeded_named : (bytes : List ℕ) (l : Location)
    → Names 4 l (seeded_record_answer bytes) ↔ ((has_mark seeded_key_mark bytes ≡ true) × (version_of bytes ≡ 1) × Named seeded_public_key b_part (seeded_b bytes) l)
unfolding seeded_record_answer
seeded_named bytes l =
    Iff.trans
    (Iff.trans (then_names _ (header_never (omega arith) seeded_key_mark 1 bytes))
    (Iff.and (header-done seeded_key_mark 1 bytes) (words_named (omega arith) (b_word_lem SeededPublicKey (λ p. refl)) (seeded_b bytes) l (length-element_of _))))
    (λ ((m, v), named). (m, v, named), λ (m, v, named). ((m, v), named))

-- header and words of each record
abbrev Behind : (mark bytes : List ℕ) → Type 0 → Type 0
Behind mark bytes named = (has_mark mark bytes ≡ true) × (version_of bytes ≡ 1) × named

pub public-front_named : (bytes : List ℕ) (l : Location)
    → Names 4 l (public_front_answer bytes) ↔ Behind public_key_mark bytes (NamedInTwo public_key a_part b_part (first_of bytes) (second_of bytes) l)
public-front_named bytes l = record_named (omega arith) (a_word_lem PublicKey (λ p. refl)) (b_word_lem PublicKey (λ p. refl)) public_key_mark 1 bytes l

pub sealed_entry_named : (bytes : List ℕ) (l : Location)
    → Names 11 l (sealed_entry_answer bytes) ↔ Behind sealed_entry_mark bytes (NamedInTwo sealed_entry c1_part c2_part (first_of bytes) (second_of bytes) l)
sealed_entry_named bytes l = record_named (omega arith) (c1_word_lem SealedEntry (λ p. refl)) (c2_word_lem SealedEntry (λ p. refl)) sealed_entry_mark 1 bytes l

pub encapsulation_named : (bytes : List ℕ) (l : Location)
    → Names 11 l (encapsulation_answer bytes) ↔ NamedInTwo encapsulation c1_part c2_part (c1_of bytes) (c2_of bytes) l
encapsulation_named bytes l =
    elements_named (omega arith) (c1_word_lem Encapsulation (λ p. refl)) (c2_word_lem Encapsulation (λ p. refl)) (c1_of bytes) (c2_of bytes) l
    (length-element_of _) (length-element_of _)

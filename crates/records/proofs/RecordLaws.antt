-- When the checks of a record pass, and which numbers they never say.
use mathlib.Core.Path.{◌≡◌, refl}
use mathlib.Core.Bool.{Bool, true, false, ◌||◌}
use mathlib.Core.Logic.Iff
use mathlib.Core.Logic.{◌↔◌, ◌⊎◌, inl, inr}
use mathlib.Core.List.{List}
use Prim.Native.Nat.{ℕ, ◌<◌, ◌≤◌}
use native.Mathlib.Omega.{arith}
use lib.Dec.{eqb}
use lib.ListN.{length}
use borrow.Author.Tests.{eqb-true, eq-eqb}
use Rattle.ring.specs.Ring.{n, Element}
use Rattle.encoding.specs.Words.{first_unreduced}
use Rattle.encoding.specs.Codes.{first_invalid_code}
use Rattle.encoding.specs.Header.{has_mark, version_of}
use Rattle.encoding.proofs.Words.{length-element_of, unreduced_iff}
use Rattle.answers.specs.declared.Refusal.{Refusal}
use Rattle.answers.specs.declared.KeyRecord.TheVariants.{PublicKey, SeededPublicKey}
use Rattle.answers.specs.declared.EncapsulationRecord.TheVariants.{SealedEntry, Encapsulation}
use Rattle.answers.specs.declared.Refusal.TheVariants.{WrongMark, WrongVersion, InvalidCode}
use Rattle.answers.specs.Answers.{refusal_number, unless, Done}
use Rattle.records.specs.Layout.{public_key_mark, seeded_key_mark, sealed_entry_mark}
use Rattle.records.specs.Records.{header_answer, a_word, b_word, c1_word, c2_word, words_answer, codes_answer, elements_answer, first_of, second_of, record_answer}
use Rattle.records.specs.Records.{public_front_answer, sealed_entry_answer, seeded_b, seeded_record_answer, c1_of, c2_of, encapsulation_answer}
use Rattle.records.specs.WellFormed.{WellFormedFront}
use Rattle.answers.proofs.AnswerLaws.{unless-done, then-done, Never, done_never, unless_never, then_never}

-- ---- when the checks pass

-- a test of two numbers that are to be equal
pub equal-done : (i j : ℕ) (r : Refusal) → (unless (eqb i j) r Done ≡ Done) ↔ (i ≡ j)
equal-done i j r = (λ e. eqb-true i j ((unless-done (eqb i j) r Done).0 e).0, λ e. (unless-done (eqb i j) r Done).1 (eq-eqb i j e, refl))

-- .. of one that is to be one of two
pub one_of_two : (i j k : ℕ) → (eqb i j || eqb i k ≡ true) ↔ ((i ≡ j) ⊎ (i ≡ k))
one_of_two i j k = (either (eqb i j) refl, one)
  where
    either : (t : Bool) → eqb i j ≡ t → t || eqb i k ≡ true → (i ≡ j) ⊎ (i ≡ k)
    either true e h = inl (eqb-true i j e)
    either false e h = inr (eqb-true i k h)

    one : (i ≡ j) ⊎ (i ≡ k) → eqb i j || eqb i k ≡ true
    one (inl e) = rw (eq-eqb i j e)
    one (inr e) = at (eqb i j)
      where
        at : (t : Bool) → t || eqb i k ≡ true
        at true = refl
        at false = eq-eqb i k e

pub header-done : (mark : List ℕ) (version : ℕ) (bytes : List ℕ) → (header_answer mark version bytes ≡ Done) ↔ ((has_mark mark bytes ≡ true) × (version_of bytes ≡ version))
unfolding header_answer
header-done mark version bytes =
    Iff.trans (unless-done (has_mark mark bytes) WrongMark _) (Iff.and Iff.rfl (equal-done (version_of bytes) version WrongVersion))

pub words-done : (word : ℕ → Refusal) (a : List ℕ) → length a ≡ n → (words_answer word a ≡ Done) ↔ Element a
unfolding words_answer
words-done word a size = Iff.trans (equal-done (first_unreduced a) n (word (first_unreduced a))) (unreduced_iff a size)

pub codes-done : (bytes : List ℕ) → (codes_answer bytes ≡ Done) ↔ (first_invalid_code bytes ≡ 1024)
unfolding codes_answer
codes-done bytes = equal-done (first_invalid_code bytes) 1024 InvalidCode

pub elements-done : (one other : ℕ → Refusal) (first second : List ℕ) → length first ≡ n → length second ≡ n
    → (elements_answer one other first second ≡ Done) ↔ (Element first × Element second)
unfolding elements_answer
elements-done one other first second h1 h2 = Iff.trans (then-done _ _) (Iff.and (words-done one first h1) (words-done other second h2))

record-done : (mark : List ℕ) (version : ℕ) (one other : ℕ → Refusal) (bytes : List ℕ)
    → (record_answer mark version one other bytes ≡ Done) ↔ WellFormedFront mark version bytes
unfolding record_answer
record-done mark version one other bytes =
    Iff.trans
    (Iff.trans (then-done _ _)
    (Iff.and (header-done mark version bytes) (elements-done one other (first_of bytes) (second_of bytes) (length-element_of _) (length-element_of _)))) (
      λ ((m, v), (first, second)). record { marked = m; has_version = v; first-words = first; second-words = second },
      λ w. ((w.marked, w.has_version), (w.first-words, w.second-words)),
    )

pub public-front-done : (bytes : List ℕ) → (public_front_answer bytes ≡ Done) ↔ WellFormedFront public_key_mark 1 bytes
public-front-done = record-done public_key_mark 1 (a_word PublicKey) (b_word PublicKey)

pub sealed_entry-done : (bytes : List ℕ) → (sealed_entry_answer bytes ≡ Done) ↔ WellFormedFront sealed_entry_mark 1 bytes
sealed_entry-done = record-done sealed_entry_mark 1 (c1_word SealedEntry) (c2_word SealedEntry)

pub seeded-done : (bytes : List ℕ)
    → (seeded_record_answer bytes ≡ Done) ↔ ((has_mark seeded_key_mark bytes ≡ true) × (version_of bytes ≡ 1) × Element (seeded_b bytes))
unfolding seeded_record_answer
seeded-done bytes =
    Iff.trans
    (Iff.trans (then-done _ _) (Iff.and (header-done seeded_key_mark 1 bytes) (words-done (b_word SeededPublicKey) (seeded_b bytes) (length-element_of _))))
    (λ ((m, v), words). (m, v, words), λ (m, v, words). ((m, v), words))

pub encapsulation-done : (bytes : List ℕ) → (encapsulation_answer bytes ≡ Done) ↔ (Element (c1_of bytes) × Element (c2_of bytes))
encapsulation-done bytes =
    elements-done (c1_word Encapsulation) (c2_word Encapsulation) (c1_of bytes) (c2_of bytes) (length-element_of _) (length-element_of _)

-- ---- which numbers these checks never say

-- k is 1 or above m
abbrev pub OneOrAbove : (m k : ℕ) → Type 0
OneOrAbove m k = (0 < k) × (1 < k → m < k)

-- .. so it is none of the numbers from 2 to m
pub none_of : {m k j : ℕ} → OneOrAbove m k → (1 < j) × (j ≤ m) → ¬ (j ≡ k)
none_of (some, above) (low, high) e = omega (arith, above (omega arith))

-- .. and 1 or above any lower bound
pub above_lower : {m m' k : ℕ} → m ≤ m' → OneOrAbove m' k → OneOrAbove m k
above_lower h (some, above) = (some, λ l. omega (arith, above l))

-- a test and nothing behind it
pub test_never : {k : ℕ} → 0 < k → (t : Bool) (r : Refusal) → ¬ (refusal_number r ≡ k) → Never k (unless t r Done)
test_never some t r other = unless_never t r other (done_never some)

-- mark and version are refused under 2 and 3
pub header_never : {k : ℕ} → OneOrAbove 3 k → (mark : List ℕ) (version : ℕ) (bytes : List ℕ) → Never k (header_answer mark version bytes)
unfolding header_answer
header_never h mark version bytes =
    unless_never (has_mark mark bytes) WrongMark (none_of h (omega arith))
    (test_never h.0 (eqb (version_of bytes) version) WrongVersion (none_of h (omega arith)))

pub codes_never : {k : ℕ} → 0 < k → ¬ (5 ≡ k) → (bytes : List ℕ) → Never k (codes_answer bytes)
unfolding codes_answer
codes_never some other bytes = test_never some (eqb (first_invalid_code bytes) 1024) InvalidCode other

-- a word's refusal has another number
pub words_never : {k : ℕ} → 0 < k → (word : ℕ → Refusal) (a : List ℕ) → ((i : ℕ) → ¬ (refusal_number (word i) ≡ k)) → Never k (words_answer word a)
unfolding words_answer
words_never some word a other = test_never some (eqb (first_unreduced a) n) (word (first_unreduced a)) (other (first_unreduced a))

pub elements_never : {k : ℕ} → 0 < k → (one other : ℕ → Refusal) (first second : List ℕ)
    → ((i : ℕ) → ¬ (refusal_number (one i) ≡ k)) → ((i : ℕ) → ¬ (refusal_number (other i) ≡ k)) → Never k (elements_answer one other first second)
unfolding elements_answer
elements_never some one other first second not-one not-other = then_never (words_never some one first not-one) (words_never some other second not-other)

record_never : {k : ℕ} → OneOrAbove 3 k → (mark : List ℕ) (version : ℕ) (one other : ℕ → Refusal) (bytes : List ℕ)
    → ((i : ℕ) → ¬ (refusal_number (one i) ≡ k)) → ((i : ℕ) → ¬ (refusal_number (other i) ≡ k)) → Never k (record_answer mark version one other bytes)
unfolding record_answer
record_never h mark version one other bytes not-one not-other =
    then_never (header_never h mark version bytes) (elements_never h.0 one other (first_of bytes) (second_of bytes) not-one not-other)

-- a key's words are refused under 4
pub seeded_never : {k : ℕ} → OneOrAbove 4 k → (bytes : List ℕ) → Never k (seeded_record_answer bytes)
unfolding seeded_record_answer
seeded_never h bytes =
    then_never (header_never (above_lower (omega arith) h) seeded_key_mark 1 bytes)
    (words_never h.0 (b_word SeededPublicKey) (seeded_b bytes) (λ i. none_of h (omega arith)))

pub public-front_never : {k : ℕ} → OneOrAbove 4 k → (bytes : List ℕ) → Never k (public_front_answer bytes)
public-front_never h bytes =
    record_never (above_lower (omega arith) h) public_key_mark 1 (a_word PublicKey) (b_word PublicKey) bytes (λ i. none_of h (omega arith))
    (λ i. none_of h (omega arith))

-- the words of what is sealed to a key are refused under 11
pub sealed_entry_never : {k : ℕ} → OneOrAbove 3 k → ¬ (11 ≡ k) → (bytes : List ℕ) → Never k (sealed_entry_answer bytes)
sealed_entry_never h other bytes =
    record_never h sealed_entry_mark 1 (c1_word SealedEntry) (c2_word SealedEntry) bytes (λ i e. other e) (λ i e. other e)

pub encapsulation_never : {k : ℕ} → 0 < k → ¬ (11 ≡ k) → (bytes : List ℕ) → Never k (encapsulation_answer bytes)
encapsulation_never some other bytes =
    elements_never some (c1_word Encapsulation) (c2_word Encapsulation) (c1_of bytes) (c2_of bytes) (λ i e. other e) (λ i e. other e)

-- A key that was read, equal parts of an answer, and what is written.
use mathlib.Core.Path.{◌≡◌, refl, sym, ap, ap₂, ◌∙◌}
use mathlib.Core.Bool.{Bool, false, true}
use mathlib.Core.List.{List}
use Prim.Native.Nat.{ℕ}
use lib.ListN.{length}
use Rattle.lists.proofs.Equal.{ap₃, ap₄}
use Rattle.ntt.specs.Spectrum.{spectrum_of, coefficients_of}
use Rattle.ring.specs.Ring.{n}
use Rattle.ring.specs.Centred.{quotients}
use Rattle.ring.proofs.RingLaws.{length-inverse}
use Rattle.scheme.specs.Scheme.{Triple, Outcome, found, failed, decapsulation, step2}
use Rattle.scheme.specs.declared.Triple as Declared
use Rattle.scheme.proofs.Steps.{decapsulation_through, step2_through}
use Rattle.encoding.proofs.Words.{length-element_of}
use Rattle.encoding.proofs.Codes.{length-ternary_of}
use Rattle.triples.specs.Triple.{triple_bytes}
use Rattle.derivation.specs.Derivation.{under_keystream, entry_of}
use Rattle.answers.specs.declared.Refusal.{Refusal}
use Rattle.answers.specs.declared.Refusal.TheVariants.{WrongLength, DecapsulationFailure}
use Rattle.answers.specs.Answers.{unless, and_then, on_done, Answer, Done}
use Rattle.records.specs.Records.{body_part, tag_part, record_answer, sealed_entry_answer}
use Rattle.sealed_records.specs.Front.{sealed_front_answer}
use Rattle.calls.specs.Calls.{outcome, outcome_answer, outcome_bytes, opened_answer, opened_entry, open_answer}
use Rattle.secret_keys.specs.SecretKeys.{secret_answer, is_expanded, layout_answer, KeyElements, parts_of, no_elements, elements_of}
use Rattle.scheme.specs.declared.SecretKey.{SecretKey}
use Rattle.scheme.specs.declared.Encapsulation.{Encapsulation}
use Rattle.secret_keys.specs.Read.{spectra_of}
use Rattle.recovery.specs.Outcomes.{as_triple, answered, outcome_by, quotients_by, decapsulated_by, opened_by, triple_key0}
use Rattle.answers.proofs.AnswerLaws.{not_done, then-done, unless-then}
use Rattle.secret_keys.proofs.Joined.{then-assoc}
use Rattle.std.specs.Prelude.{Ok, Err}
use Rattle.opening.specs.Parts.{opened_outcome, read_answer, sealed_answer, entry_fits, entry_read_answer}

-- ---- decapsulation with a key that was read

-- every element has 1,024 coefficients, as what is read off bytes has
pub record Sized (key : KeyElements) : Type 0 where
  pub a-size : length key.a ≡ n
  pub b-size : length key.b ≡ n
  pub s-size : length key.s ≡ n
  pub inverse_size_lem : length key.inverse ≡ n

parts_sized : (expanded : Bool) (k : List ℕ) → Sized (parts_of expanded k)
parts_sized false k = record { a-size = length-element_of _; b-size = length-element_of _; s-size = length-ternary_of _; inverse_size_lem = length-inverse _ }
parts_sized true k = record { a-size = length-element_of _; b-size = length-element_of _; s-size = length-ternary_of _; inverse_size_lem = length-element_of _ }

none_sized : Sized no_elements
none_sized = record { a-size = refl; b-size = refl; s-size = refl; inverse_size_lem = refl }

pub read_sized : (k : List ℕ) → Sized (elements_of k)
unfolding elements_of
read_sized k = read (layout_answer k)
  where
    read : (layout : Answer) → Sized (on_done layout (parts_of (is_expanded k) k) no_elements)
    read (Ok _) = parts_sized (is_expanded k) k
    read (Err r) = none_sized

pub outcome_by_lem : {k : SecretKey} {t : Declared.Triple} {c : Encapsulation} {key : KeyElements} {dummy : Triple} {c1 c2 : List ℕ} → Sized key
    → k ≡ spectra_of key → as_triple t ≡ dummy → c ≡ record { c1 = c1; c2 = c2 } → outcome_by k t c ≡ outcome key dummy c1 c2
unfolding outcome
outcome_by_lem {k} {t} {c} {key} {dummy} {c1} {c2} size ek et ec =
    ap₂ (λ (k : SecretKey) (c : Encapsulation). outcome_by k t c) ek ec
    ∙ decapsulation_through key.a key.b key.inverse key.s size.a-size size.b-size size.inverse_size_lem size.s-size (as_triple t) c1 c2
    ∙ ap (λ (x : Triple). decapsulation key.a key.b key.inverse key.s x c1 c2) et

pub quotients_by_lem : {k : SecretKey} {t : Declared.Triple} {c : Encapsulation} {key : KeyElements} {dummy : Triple} {c1 c2 : List ℕ} → Sized key
    → k ≡ spectra_of key → as_triple t ≡ dummy → c ≡ record { c1 = c1; c2 = c2 } → quotients_by k t c ≡ quotients (step2 key.a key.b key.s dummy c1 c2)
quotients_by_lem {k} {t} {c} {key} {dummy} {c1} {c2} size ek et ec =
    ap₂ (λ (k : SecretKey) (c : Encapsulation). quotients_by k t c) ek ec
    ∙ ap quotients
    (step2_through key.a key.b key.s size.a-size size.b-size size.s-size (as_triple t) c1 c2 ∙ ap (λ (x : Triple). step2 key.a key.b key.s x c1 c2) et)

-- a sealed entry has nothing between header and words
pub entry-front : (sealed : List ℕ) → sealed_front_answer 1 Done sealed ≡ sealed_entry_answer sealed
unfolding sealed_front_answer record_answer
entry-front sealed = refl

-- ---- 9 and 10 behind what is said before an opening

pub sealed_said : (k sealed : List ℕ) (version : ℕ) (between : Answer) (noise blocks tag : List ℕ)
    → sealed_answer k sealed version between noise blocks tag ≡ and_then (read_answer k sealed version between) (opened_answer (opened_outcome k sealed noise) blocks tag)
sealed_said k sealed version between noise blocks tag =
    sym (then-assoc (secret_answer k) (sealed_front_answer version between sealed) (opened_answer (opened_outcome k sealed noise) blocks tag))

pub entry_said : (k sealed noise : List ℕ) (room : ℕ)
    → open_answer k sealed noise room ≡ and_then (entry_read_answer k sealed noise room) (opened_answer (opened_outcome k sealed noise) (body_part sealed) (tag_part sealed))
unfolding open_answer
entry_said k sealed noise room =
    let key = secret_answer k in
    let words = sealed_entry_answer sealed in
    let opened = opened_answer (opened_outcome k sealed noise) (body_part sealed) (tag_part sealed) in
    let fits = entry_fits k sealed noise room in
    let read = and_then key words in
    ap (unless fits WrongLength) (sym (then-assoc key words opened))
    ∙ sym (unless-then fits WrongLength (and_then read opened))
    ∙ sym (then-assoc (unless fits WrongLength Done) read opened)
    ∙ ap (λ (a : Answer). and_then a opened) (unless-then fits WrongLength read)

-- ---- what is written

-- where all is done a triple was found, and its bytes are written
pub triple-written : (a b c : Answer) (o : Outcome) → and_then a (and_then b (and_then c (outcome_answer o))) ≡ Done
    → triple_bytes (answered o).r (answered o).e1 (answered o).e2 ≡ outcome_bytes o
triple-written a b c (found t) e = refl
triple-written a b c failed e =
    let last = outcome_answer failed in
    absurd (not_done ((then-done c last).0 ((then-done b (and_then c last)).0 ((then-done a (and_then b (and_then c last))).0 e).1).1).1)

-- .. and K0 is its own
pub entry-written : {k0 : List ℕ} (a b : Answer) (o : Outcome) (blocks tag body old : List ℕ) → k0 ≡ triple_key0 (answered o)
    → let answer = opened_by a b o blocks tag in
    on_done answer (under_keystream k0 body) old ≡ on_done answer (opened_entry o body) old
unfolding entry_of
entry-written (Err r) b o blocks tag body old e = refl
entry-written (Ok _) (Err r) o blocks tag body old e = refl
entry-written (Ok _) (Ok _) failed blocks tag body old e = refl
entry-written (Ok _) (Ok _) (found t) blocks tag body old e = rw e

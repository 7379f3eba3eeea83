-- Demand 3 of bare opening.
use mathlib.Core.Path.{◌≡◌, refl, sym, ap, ◌∙◌}
use mathlib.Core.Logic.Iff
use mathlib.Core.Logic.{◌↔◌}
use mathlib.Core.List.{List}
use Prim.Native.Nat.{ℕ}
use native.Mathlib.Omega.{arith}
use lib.ListN.{length}
use Rattle.exactness.specs.Promises.{Exact}
use Rattle.ring.specs.Ring.{Element}
use Rattle.scheme.specs.Scheme.{Triple, Outcome, found, setting}
use Rattle.scheme.proofs.Steps.{triple-same}
use Rattle.answers.specs.declared.Refusal.TheVariants.{WrongLength}
use Rattle.answers.specs.Answers.{number, on_done, Answer}
use Rattle.answers.specs.Locations.{code}
use Rattle.triples.specs.Triple.{triple_bytes}
use Rattle.records.specs.Layout.{triple_length}
use Rattle.records.specs.Records.{first_of, second_of, c1_of, c2_of}
use Rattle.triples.specs.Triple.{r_of, e1_of, e2_of}
use Rattle.triples.specs.Triple.{triple_of}
use Rattle.secret_keys.specs.SecretKeys.{KeyElements, elements_of}
use Rattle.calls.specs.Calls.{outcome, outcome_answer, outcome_bytes, decapsulate_answer, decapsulate_out}
use Rattle.records.specs.WellFormed.{WellFormedEncapsulation}
use Rattle.triples.specs.WellFormed.{WellFormedTriple}
use Rattle.calls.specs.Promises.{Accepted, Ternaries, Decapsulated, DecapsulateExact}
use Rattle.answers.proofs.AnswerLaws.{unless_passed, then_passed}
use Rattle.answers.proofs.CodeLaws.{code_is-number}
use Rattle.records.proofs.RecordLaws.{encapsulation-done}
use Rattle.calls.proofs.Behind.{outcome_never}
use Rattle.triples.proofs.TripleLaws.{triple-done}
use Rattle.triples.proofs.WrittenTriples.{triple-r, triple-e1, triple-e2}
use Rattle.calls.proofs.Lengths.{decapsulate-fits}
use Rattle.calls.proofs.CheckExact.{accepted-size, accepted-done}
use Rattle.calls.proofs.Outcomes.{coded-ternary, Sound, accepted-sound, accepted-a, accepted-b, outcome-exact, outcome_free, outcome-ternary, found-answer, failed-answer}

-- two ternary triples with the same bytes
same_bytes : {t u : Triple} → Ternaries t → Ternaries u → triple_bytes t.r t.e1 t.e2 ≡ triple_bytes u.r u.e1 u.e2 → t ≡ u
same_bytes {t} {u} ht hu e =
    triple-same
    (sym (triple-r t.r t.e1 t.e2 ht.r-ternary) ∙ ap r_of e ∙ triple-r u.r u.e1 u.e2 hu.r-ternary)
    (sym (triple-e1 t.r t.e1 t.e2 ht.e1-ternary) ∙ ap e1_of e ∙ triple-e1 u.r u.e1 u.e2 hu.e1-ternary)
    (sym (triple-e2 t.r t.e1 t.e2 ht.e2-ternary) ∙ ap e2_of e ∙ triple-e2 u.r u.e1 u.e2 hu.e2-ternary)

-- ---- on elements: what the outcome says and writes

-- what the output then holds
abbrev after : Outcome → List ℕ → List ℕ
after o before = on_done (outcome_answer o) (outcome_bytes o) before

-- the triple t is found exactly when 0 is said and its bytes are written
found_iff : (t : Triple) (o : Outcome) (before : List ℕ) → Ternaries t → ((u : Triple) → o ≡ found u → Ternaries u)
    → (o ≡ found t) ↔ ((number (outcome_answer o) ≡ 0) × (after o before ≡ triple_bytes t.r t.e1 t.e2))
found_iff t o before ht ternary = (
  λ e. rw e (refl, refl),
  λ (zero, bytes).
      let (u, e) = (found-answer o).1 zero in
      e ∙ ap found (same_bytes (ternary u e) ht (rw e at bytes)),
)

pub decapsulated : (key : KeyElements) (c1 c2 before : List ℕ) (dummy : Triple) → Sound key → Element c1 → Element c2 → Ternaries dummy
    → let o = outcome key dummy c1 c2 in
    Decapsulated key.a key.b c1 c2 (number (outcome_answer o)) (after o before)
unfolding outcome
decapsulated key c1 c2 before dummy sound h1 h2 h = record {
  opens = λ t ht. Iff.trans (exact.opens t) (found_iff t o before ht (outcome-ternary key c1 c2 dummy));
  answers = Iff.trans exact.answers (found-answer o);
  refuses = Iff.trans exact.refuses (failed-answer o);
  unique = exact.unique;
}
  where
    o : Outcome
    o = outcome key dummy c1 c2

    exact : Exact setting key.a key.b key.inverse key.s c1 c2 dummy
    exact = outcome-exact key c1 c2 dummy sound h1 h2 h

-- ---- over bytes

module _ (k c before : List ℕ) (accepted : Accepted k) (wc : WellFormedEncapsulation c) (room : length before ≡ triple_length) where
  -- what is found with the dummy d
  abbrev with_dummy : List ℕ → Outcome
  with_dummy d = outcome (elements_of k) (triple_of d) (c1_of c) (c2_of c)

  -- every check passes, so the outcome decides
  decides : (d : List ℕ) → WellFormedTriple d → decapsulate_answer k c d (length before) ≡ outcome_answer (with_dummy d)
  unfolding decapsulate_answer
  decides d wd =
      unless_passed WrongLength _
      ((decapsulate-fits k c d (length before)).1 (accepted-size k accepted, wc.size, wd.size, room))
      ∙ then_passed _ (accepted-done k accepted)
      ∙ then_passed _ ((encapsulation-done c).1 (wc.c1-words, wc.c2-words))
      ∙ then_passed _ ((triple-done d).1 (wd.r-codes, wd.e1-codes, wd.e2-codes))

  writes : (d : List ℕ) → WellFormedTriple d → decapsulate_out k c d before ≡ after (with_dummy d) before
  unfolding decapsulate_out
  writes d wd = ap (λ (a : Answer). on_done a (outcome_bytes (with_dummy d)) before) (decides d wd)

  pub exactly : (d : List ℕ) → WellFormedTriple d
      → Decapsulated (first_of k) (second_of k) (c1_of c) (c2_of c) (number (decapsulate_answer k c d (length before))) (decapsulate_out k c d before)
      × ((other : List ℕ) → WellFormedTriple other
      → (number (decapsulate_answer k c other (length before)) ≡ number (decapsulate_answer k c d (length before)))
      × (decapsulate_out k c other before ≡ decapsulate_out k c d before))
  exactly d wd =
      let sound = accepted-sound k accepted in
      rw (decides d wd, writes d wd, accepted-a k accepted, accepted-b k accepted) (
        decapsulated (elements_of k) (c1_of c) (c2_of c) before (triple_of d) sound wc.c1-words wc.c2-words (coded-ternary d),
        λ other w.
            let same = outcome_free (elements_of k) (c1_of c) (c2_of c) (triple_of d) sound wc.c1-words wc.c2-words (coded-ternary d) (triple_of other) (coded-ternary other) in
            (ap number (decides other w ∙ ap outcome_answer same), writes other w ∙ ap (λ (o : Outcome). after o before) same),
      )

  -- no word is named, so the code is the number
  pub plain : (d : List ℕ) → WellFormedTriple d → code (decapsulate_answer k c d (length before)) ≡ number (decapsulate_answer k c d (length before))
  plain d wd =
      let never-4 = outcome_never (omega arith) (λ (f : 9 ≡ 4). omega arith) (with_dummy d) in
      let never-11 = outcome_never (omega arith) (λ (f : 9 ≡ 11). omega arith) (with_dummy d) in
      rw (decides d wd) (code_is-number (outcome_answer (with_dummy d)) never-4 never-11)

pub decapsulate-exact : (k c d before : List ℕ) → DecapsulateExact k c d before (number (decapsulate_answer k c d (length before))) (decapsulate_out k c d before)
decapsulate-exact k c d before accepted wc wd room = exactly k c before accepted wc room d wd

pub decapsulate-exact-code : (k c d before : List ℕ)
    → DecapsulateExact k c d before (code (decapsulate_answer k c d (length before))) (decapsulate_out k c d before)
decapsulate-exact-code k c d before accepted wc wd room =
    rw (plain k c before accepted wc room d wd) (decapsulate-exact k c d before accepted wc wd room)

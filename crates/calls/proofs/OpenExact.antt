-- Demand 3 of opening a sealed entry.
use mathlib.Core.Path.{◌≡◌, ap, ◌∙◌}
use mathlib.Core.Logic.Iff
use mathlib.Core.List.{List}
use Prim.Native.Nat.{ℕ}
use native.Mathlib.Omega.{arith}
use lib.ListN.{length}
use Rattle.exactness.specs.Promises.{Exact}
use Rattle.ring.specs.Ring.{Element}
use Rattle.scheme.specs.Scheme.{Triple, Outcome, found, setting}
use Rattle.derivation.specs.Derivation.{tag_of, entry_of}
use Rattle.answers.specs.declared.Refusal.TheVariants.{WrongLength}
use Rattle.answers.specs.Answers.{number, on_done, Answer, Done}
use Rattle.answers.specs.Locations.{code}
use Rattle.records.specs.Layout.{block_length}
use Rattle.records.specs.Records.{first_of, second_of, body_part, tag_part}
use Rattle.secret_keys.specs.SecretKeys.{KeyElements, elements_of}
use Rattle.keys.specs.Keys.{triple_noise_length, noise_triple}
use Rattle.calls.specs.Calls.{outcome, opened_answer, opened_entry, open_answer, open_out}
use Rattle.records.specs.WellFormed.{WellFormedEntry}
use Rattle.calls.specs.Promises.{Accepted, Ternaries, OpenedTo, Opened, OpenExact}
use Rattle.answers.proofs.AnswerLaws.{unless_passed, then_passed, on_done_lem, on_refusal}
use Rattle.answers.proofs.CodeLaws.{code_is-number}
use Rattle.records.proofs.RecordLaws.{sealed_entry-done}
use Rattle.calls.proofs.Behind.{opened_never}
use Rattle.calls.proofs.Lengths.{open-fits}
use Rattle.calls.proofs.CheckExact.{accepted-size, accepted-done}
use Rattle.calls.proofs.Outcomes.{noise-ternary, Sound, accepted-sound, accepted-a, accepted-b, outcome-exact, outcome_free, right-tag, wrong-tag, found-opened, failed-opened}

-- ---- on elements: what the outcome says and writes

-- 9 and 10 name no word, so the code is the number
pub opened_plain : (o : Outcome) (blocks tag : List ℕ) → code (opened_answer o blocks tag) ≡ number (opened_answer o blocks tag)
opened_plain o blocks tag =
    code_is-number (opened_answer o blocks tag) (opened_never (omega arith) (λ e. omega arith) (λ e. omega arith) o blocks tag)
    (opened_never (omega arith) (λ e. omega arith) (λ e. omega arith) o blocks tag)

-- the tag is that of `blocks`, and the output holds what `put` makes of the entry of a body
module _ (key : KeyElements) (c1 c2 blocks body tag before : List ℕ) (put : List ℕ → List ℕ) where
  abbrev after : Outcome → List ℕ
  after o = on_done (opened_answer o blocks tag) (put (opened_entry o body)) before

  abbrev shown : Triple → List ℕ
  shown t = put (entry_of t.r t.e1 t.e2 body)

  -- by the tag, where a triple is found
  with-right-tag : (t : Triple) (o : Outcome) → o ≡ found t → tag ≡ tag_of t.r t.e1 t.e2 blocks
      → (number (opened_answer o blocks tag) ≡ 0) × (after o ≡ shown t)
  with-right-tag t o is right =
      let done : opened_answer (found t) blocks tag ≡ Done = right-tag t blocks tag right in
      rw is (ap number done, on_done_lem _ before done)

  with_wrong-tag : (t : Triple) (o : Outcome) → o ≡ found t → ¬ (tag ≡ tag_of t.r t.e1 t.e2 blocks)
      → (number (opened_answer o blocks tag) ≡ 10) × (after o ≡ before)
  with_wrong-tag t o is wrong =
      let ten : number (opened_answer (found t) blocks tag) ≡ 10 = wrong-tag t blocks tag wrong in
      rw is (ten, on_refusal (opened_answer (found t) blocks tag) _ before (λ zero. omega (arith, ten, zero)))

  pub opened : (dummy : Triple) → Sound key → Element c1 → Element c2 → Ternaries dummy
      → let o = outcome key dummy c1 c2 in
      OpenedTo key.a key.b c1 c2 blocks tag before shown (number (opened_answer o blocks tag)) (after o)
  unfolding outcome
  opened dummy sound h1 h2 h = record {
    opens = λ t m. with-right-tag t o ((exact.opens t).0 m);
    wrong-tag = λ t m. with_wrong-tag t o ((exact.opens t).0 m);
    answers = Iff.trans exact.answers (found-opened o blocks tag);
    refuses = Iff.trans exact.refuses (failed-opened o blocks tag);
    unique = exact.unique;
  }
    where
      o : Outcome
      o = outcome key dummy c1 c2

      exact : Exact setting key.a key.b key.inverse key.s c1 c2 dummy
      exact = outcome-exact key c1 c2 dummy sound h1 h2 h

-- ---- over bytes

module _ (k e before : List ℕ) (accepted : Accepted k) (we : WellFormedEntry e) (room : length before ≡ block_length) where
  -- what is found with the dummy of these noise bytes
  abbrev with_dummy : List ℕ → Outcome
  with_dummy noise = outcome (elements_of k) (noise_triple noise) (first_of e) (second_of e)

  -- what is then said and written
  abbrev says : Outcome → Answer
  says o = opened_answer o (body_part e) (tag_part e)

  abbrev writing : Outcome → List ℕ
  writing o = on_done (says o) (opened_entry o (body_part e)) before

  -- every check passes, so the outcome decides
  decides : (noise : List ℕ) → length noise ≡ triple_noise_length → open_answer k e noise (length before) ≡ says (with_dummy noise)
  unfolding open_answer
  decides noise size =
      unless_passed WrongLength _
      ((open-fits k e noise (length before)).1 (accepted-size k accepted, we.size, size, room))
      ∙ then_passed _ (accepted-done k accepted)
      ∙ then_passed _ ((sealed_entry-done e).1 we.front)

  writes : (noise : List ℕ) → length noise ≡ triple_noise_length → open_out k e noise before ≡ writing (with_dummy noise)
  unfolding open_out
  writes noise size = ap (λ (a : Answer). on_done a (opened_entry (with_dummy noise) (body_part e)) before) (decides noise size)

  pub exactly : (noise : List ℕ) → length noise ≡ triple_noise_length
      → Opened (first_of k) (second_of k) (first_of e) (second_of e) (body_part e) (tag_part e) before (number (open_answer k e noise (length before))) (open_out k e noise before)
      × ((other : List ℕ) → length other ≡ triple_noise_length
      → (number (open_answer k e other (length before)) ≡ number (open_answer k e noise (length before))) × (open_out k e other before ≡ open_out k e noise before))
  exactly noise size =
      let sound = accepted-sound k accepted in
      let h1 = we.front.first-words in
      let h2 = we.front.second-words in
      rw (decides noise size, writes noise size, accepted-a k accepted, accepted-b k accepted) (
        opened (elements_of k) (first_of e) (second_of e) (body_part e) (body_part e) (tag_part e) before (λ x. x) (noise_triple noise) sound h1 h2 (noise-ternary noise),
        λ other h.
            let same = outcome_free (elements_of k) (first_of e) (second_of e) (noise_triple noise) sound h1 h2 (noise-ternary noise) (noise_triple other) (noise-ternary other) in
            (ap number (decides other h ∙ ap says same), writes other h ∙ ap writing same),
      )

  -- .. in the call too
  pub plain : (noise : List ℕ) → length noise ≡ triple_noise_length → code (open_answer k e noise (length before)) ≡ number (open_answer k e noise (length before))
  plain noise size = rw (decides noise size) (opened_plain (with_dummy noise) (body_part e) (tag_part e))

pub open-exact : (k e noise before : List ℕ) → OpenExact k e noise before (number (open_answer k e noise (length before))) (open_out k e noise before)
open-exact k e noise before accepted we size room = exactly k e before accepted we room noise size

pub open-exact-code : (k e noise before : List ℕ) → OpenExact k e noise before (code (open_answer k e noise (length before))) (open_out k e noise before)
open-exact-code k e noise before accepted we size room =
    rw (plain k e before accepted we room noise size) (open-exact k e noise before accepted we size room)

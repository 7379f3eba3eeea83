-- A batch whose length does not fit its count, and what is shown of one whose length does.
use mathlib.Core.Path.{◌≡◌, refl, sym, ap, ap₂, ◌∙◌}
use mathlib.Core.Bool.{Bool, true, false, ◌&&◌, cond, true≢false, and-eq-true_iff}
use mathlib.Core.List.{List, ◌++◌}
use Prim.Native.Nat.{ℕ, ◌+◌, ◌*◌}
use native.Mathlib.Omega.{arith}
use lib.Dec.{eqb, leb}
use lib.ListN.{length, take, drop, take-append-drop, length-drop}
use lib.Seq.{length-take-le}
use borrow.Author.Tests.{eqb-true}
use Rattle.scheme.specs.Scheme.{Outcome}
use Rattle.answers.specs.declared.EncapsulationRecord.TheVariants.{SealedEntry}
use Rattle.answers.specs.declared.Refusal.{Refusal}
use Rattle.answers.specs.declared.Refusal.TheVariants.{WrongLength, WrongCount}
use Rattle.answers.specs.Answers.{unless, and_then, on_done, Answer}
use Rattle.records.specs.Layout.{header_length, sealed_entry_mark}
use Rattle.records.specs.Records.{header_answer, c1_word, c2_word, elements_answer, first_of, second_of}
use Rattle.batch_records.specs.Batches.{body_place, batch_overhead, batch_length, entries_length, count_of, count_block, is_count, batch_body, batch_tag, tagged_blocks, batch_answer}
use Rattle.batch_records.specs.Read.{count_answer, is_held, body_length}
use Rattle.batch_records.proofs.Laws.{batch-front}
use Rattle.sealed_records.specs.Front.{sealed_front_answer}
use Rattle.secret_keys.specs.SecretKeys.{secret_answer}
use Rattle.keys.specs.Keys.{triple_noise_length}
use Rattle.calls.specs.Calls.{opened_entry}
use Rattle.batch_calls.specs.Calls.{batch_outcome, open_batch_answer, in_front, open_batch_out, open_batch_count}
use Rattle.batch_calls.proofs.Untouched.{length-opened}
use Rattle.recovery.specs.Outcomes.{opened_by}
use Rattle.batch_opening.specs.Parts.{entries_answer, shown_entries}
use Rattle.std.specs.Prelude.{Ok, Err}

-- ---- a length that does not fit the count

-- is refused by the checks of the batch
pub not_held : (b : List ℕ) → is_count (count_of b) && eqb (length b) (batch_length (count_of b)) ≡ false → (r : Refusal) × (batch_answer b ≡ Err r)
unfolding batch_answer
not_held b e =
    by (header_answer sealed_entry_mark 2 b) (is_count (count_of b)) (eqb (length b) (batch_length (count_of b)))
    (elements_answer (c1_word SealedEntry) (c2_word SealedEntry) (first_of b) (second_of b)) e
  where
    by : (header : Answer) (counted fits : Bool) (words : Answer) → counted && fits ≡ false
        → (r : Refusal) × (and_then header (unless counted WrongCount (unless fits WrongLength words)) ≡ Err r)
    by (Err r) counted fits words e = (r, refl)
    by (Ok _) false fits words e = (WrongCount, refl)
    by (Ok _) true false words e = (WrongLength, refl)
    by (Ok _) true true words e = absurd (true≢false e)

-- nothing behind a refusal counts
pub refused-before : (key : Answer) {front : Answer} (r : Refusal) (o : Outcome) (blocks tag blocks' tag' : List ℕ) → front ≡ Err r
    → opened_by key front o blocks tag ≡ opened_by key front o blocks' tag'
refused-before (Ok _) r o blocks tag blocks' tag' e = rw e
refused-before (Err s) r o blocks tag blocks' tag' e = refl

pub refused-keeps : {A : Type 0} (key : Answer) {front : Answer} (r : Refusal) (o : Outcome) (blocks tag : List ℕ) (new old : A) → front ≡ Err r
    → on_done (opened_by key front o blocks tag) new old ≡ old
refused-keeps (Ok _) r o blocks tag new old e = rw e
refused-keeps (Err s) r o blocks tag new old e = refl

-- ---- what is shown

-- in the first n bytes of the output
shown-in-front : (a : Answer) (new out : List ℕ) (n : ℕ) → length new ≡ n → on_done a new (take n out) ++ drop n out ≡ on_done a (in_front new out) out
shown-in-front (Ok _) new out n e = rw e
shown-in-front (Err r) new out n e = take-append-drop n out

-- the body of a batch with the length that fits
length-body : (b : List ℕ) → length b ≡ batch_length (count_of b) → length (batch_body b) ≡ 16 * count_of b
length-body b e = length-take-le (16 * count_of b) (drop body_place b) (omega (arith, length-drop body_place b))

-- the version is compared by itself, so that a wrong one is seen at once
pub version_is : (k batch noise : List ℕ) (given : ℕ) {a : Answer} (between : Answer) (blocks tag : List ℕ)
    → a ≡ opened_by (secret_answer k) (sealed_front_answer given between batch) (batch_outcome k batch noise) blocks tag → given ≡ 2
    → a ≡ opened_by (secret_answer k) (sealed_front_answer 2 between batch) (batch_outcome k batch noise) blocks tag
version_is k batch noise given between blocks tag e same =
    e ∙ ap (λ (v : ℕ). opened_by (secret_answer k) (sealed_front_answer v between batch) (batch_outcome k batch noise) blocks tag) same

-- what is said and shown by the body that is read: the batch's own where its length fits, and nothing where it is refused
module _ (k batch noise out : List ℕ) {s : ℕ} (es : s ≡ body_length (count_of batch) (length batch)) where
  abbrev m : ℕ
  m = count_of batch

  abbrev o : Outcome
  o = batch_outcome k batch noise

  abbrev read : List ℕ
  read = take s (drop body_place batch)

  abbrev says : Answer
  says = opened_by (secret_answer k) (batch_answer batch) o (count_block m ++ read) (take 16 (drop (body_place + s) batch))

  by-body : (h : Bool) → is_held m (length batch) ≡ h
      → (says ≡ entries_answer k batch noise) × (on_done says (opened_entry o read) (take s out) ++ drop s out ≡ shown_entries k batch noise out)
  by-body true e =
      let whole : s ≡ 16 * m = es ∙ ap (λ (b : Bool). cond b (16 * m) 0) e in
      let fits = eqb-true (length batch) (batch_length m) ((and-eq-true_iff (is_count m) (eqb (length batch) (batch_length m))).0 e).1 in
      rw whole (refl, shown-in-front (entries_answer k batch noise) _ out (16 * m) (length-opened o (batch_body batch) ∙ length-body batch fits))
  by-body false e =
      let (r, refused) = not_held batch e in (
        refused-before (secret_answer k) r o _ _ (tagged_blocks batch) (batch_tag batch) refused,
        ap (λ (x : List ℕ). x ++ drop s out) (refused-keeps (secret_answer k) r o _ _ (opened_entry o read) (take s out) refused)
            ∙ take-append-drop s out
            ∙ sym (refused-keeps (secret_answer k) r o (tagged_blocks batch) (batch_tag batch) _ out refused),
      )

  -- n bytes of the output are lent, as many as are read
  pub opened-batch : {a : Answer} {p : List ℕ} {n : ℕ}
      → a ≡ opened_by (secret_answer k) (sealed_front_answer 2 (count_answer m (length batch)) batch) o (count_block m ++ read) (take 16 (drop (body_place + s) batch))
      → n ≡ s → p ≡ on_done a (opened_entry o read) (take n out)
      → (a ≡ entries_answer k batch noise) × (p ++ drop n out ≡ shown_entries k batch noise out)
  opened-batch {a} {p} {n} ea en ep =
      let said : a ≡ says = ea ∙ ap (λ (x : Answer). opened_by (secret_answer k) x o (count_block m ++ read) (take 16 (drop (body_place + s) batch))) (batch-front batch) in
      let (answer, shown) = by-body (is_held m (length batch)) refl in
      let same = ep ∙ ap₂ (λ (x : Answer) (i : ℕ). on_done x (opened_entry o read) (take i out)) said en in
      (said ∙ answer, ap₂ (λ (x : List ℕ) (i : ℕ). x ++ drop i out) same en ∙ shown)

-- ---- over bytes

module _ (k batch noise : List ℕ) (room : ℕ) where
  abbrev is_fitting : Bool
  is_fitting = leb header_length (length k) && leb batch_overhead (length batch) && eqb (length noise) triple_noise_length && eqb room entries_length

  pub lengths_refused : is_fitting ≡ false → Err WrongLength ≡ open_batch_answer k batch noise room
  unfolding open_batch_answer
  lengths_refused e = rw e

  pub checks_decide : is_fitting ≡ true → entries_answer k batch noise ≡ open_batch_answer k batch noise room
  unfolding open_batch_answer
  checks_decide e = rw e

  -- the count by what is said
  pub count_by : (lent : ℕ) {a : Answer} → a ≡ open_batch_answer k batch noise room → on_done a (count_of batch) lent ≡ open_batch_count k batch noise room lent
  unfolding open_batch_count
  count_by lent e = ap (λ (a : Answer). on_done a (count_of batch) lent) e

-- the output by what is said
pub out_by : (k batch noise out : List ℕ) {a : Answer} → a ≡ open_batch_answer k batch noise (length out)
    → on_done a (in_front (opened_entry (batch_outcome k batch noise) (batch_body batch)) out) out ≡ open_batch_out k batch noise out
unfolding open_batch_out
out_by k batch noise out e = ap (λ (a : Answer). on_done a (in_front (opened_entry (batch_outcome k batch noise) (batch_body batch)) out) out) e

use mathlib.Core.Path.{◌≡◌, refl, sym, ap, ap₂, ◌∙◌}
use mathlib.Core.List.{List, ◌++◌}
use Prim.Native.Nat.{ℕ, ◌+◌, ◌-◌}
use native.Mathlib.Omega.{arith}
use lib.ListN.{length, take, drop}
use Rattle.std.specs.Prelude.{Ok, Err}
use Rattle.std.proofs.lemmas.Result.{err_from_is_err_and}
use Rattle.lists.proofs.Equal.{ap₃}
use Rattle.answers.specs.Answers.{on_done, Answer}
use Rattle.answers.proofs.AnswerLaws.{given-done, given-refused, then_passed, then-failed}
use Rattle.batch_records.specs.Batches.{count_of, count_block}
use Rattle.batch_records.specs.Read.{count_answer, body_length}
use Rattle.sealed_records.specs.Front.{sealed_front_answer}
use Rattle.secret_keys.specs.SecretKeys.{secret_answer}
use Rattle.calls.specs.Calls.{opened_answer, opened_entry}
use Rattle.batch_calls.specs.Calls.{batch_outcome}
use Rattle.recovery.specs.Outcomes.{opened_by}
use Rattle.opening.specs.declared.OpenedSealed.{OpenedSealed}
use Rattle.opening.specs.Parts.{sealed_answer}
use Rattle.opening.proofs.Laws.{sealed_said}
use Rattle.batch_opening.specs.Parts.{entries_answer, shown_entries}
use Rattle.batch_opening.proofs.Laws.{version_is, opened-batch}
use borrow.Author.Rules.{rules}
use Rattle.batch_opening.proofs.open_records.Goals as goal

-- the parts of a batch as the code cuts them, of s bytes of body
abbrev blocks_of : (batch l : List ℕ) (s : ℕ) → List ℕ
blocks_of batch l s = l ++ take (4103 + s - 4103) (drop 4103 batch)

abbrev told_tag : (batch : List ℕ) (s : ℕ) → List ℕ
told_tag batch s = take (4119 + s - (4103 + s)) (drop (4103 + s) batch)

abbrev says : (k batch noise : List ℕ) (between : Answer) (l : List ℕ) (s : ℕ) → Answer
says k batch noise between l s = sealed_answer k batch 2 between noise (blocks_of batch l s) (told_tag batch s)

-- what is said and shown by them
by-parts : (k batch noise old : List ℕ) {m s : ℕ} {between : Answer} {l p : List ℕ} → m ≡ count_of batch → s ≡ body_length m (length batch)
    → between ≡ count_answer m (length batch) → l ≡ count_block m
    → p ≡ on_done (says k batch noise between l s) (opened_entry (batch_outcome k batch noise) (take (4103 + s - 4103) (drop 4103 batch))) (take (s - 0) old)
    → (says k batch noise between l s ≡ entries_answer k batch noise) × (p ++ drop (s - 0) old ≡ shown_entries k batch noise old)
by-parts k batch noise old {m} {s} {between} {l} {p} em es eb el ep =
    let whole : 4103 + s - 4103 ≡ s = omega arith in
    let long : 4119 + s - (4103 + s) ≡ 16 = omega arith in
    let none : s - 0 ≡ s = omega arith in
    let body = ap (λ (n : ℕ). take n (drop 4103 batch)) whole in
    let blocks = ap₂ ◌++◌ (el ∙ ap count_block em) body in
    let tag = ap (λ (n : ℕ). take n (drop (4103 + s) batch)) long in
    let front = eb ∙ ap (λ (x : ℕ). count_answer x (length batch)) em in
    let o = batch_outcome k batch noise in
    opened-batch k batch noise old (es ∙ ap (λ (x : ℕ). body_length x (length batch)) em) {a = says k batch noise between l s}
    (version_is k batch noise 2 between (blocks_of batch l s) (told_tag batch s) refl refl
    ∙ ap₃ (λ (w : Answer) (x y : List ℕ). opened_by (secret_answer k) (sealed_front_answer 2 w batch) o x y) front blocks tag)
    none (ep ∙ ap (λ (x : List ℕ). on_done (says k batch noise between l s) (opened_entry o x) (take (s - 0) old)) body)

pub open_sealed-requires : goal.open_sealed-requires
open_sealed-requires c =
    let start = c in
    let (size, noise, room) = start.requires in
    (omega (arith, size), noise, search rules, omega arith, omega arith)

pub returns-in_err-opened : goal.returns-in_err-opened
returns-in_err-opened c =
    let args = c.args in
    let k = args.key.now in
    let batch = args.batch.now in
    let noise = args.noise.now in
    let l = c.count_block-l.result in
    let s = c.body_length-size.result in
    let between = c.count_answer-between.result in
    let (answer, shown) =
    by-parts k batch noise args.out.now c.count-m.ensures.0 c.body_length-size.ensures.value c.count_answer-between.ensures c.count_block-l.ensures
    c.open_sealed.ensures.out_after in
    let p = err_from_is_err_and c.from_residual.result c.from_residual.ensures.1 in
    let read = given-refused _ (sym c.in_err-opened.was ∙ c.open_sealed.ensures.value) in
    let refused = sym answer ∙ sealed_said k batch 2 between noise (blocks_of batch l s) (told_tag batch s)
    ∙ then-failed (opened_answer (batch_outcome k batch noise) (blocks_of batch l s) (told_tag batch s)) read in
    record { value = p.1 ∙ ap Err p.2 ∙ sym (then-failed (Ok (count_of batch)) refused); out_after = shown }

pub returns-in_err-answer : goal.returns-in_err-answer
returns-in_err-answer c =
    let args = c.args in
    let k = args.key.now in
    let batch = args.batch.now in
    let noise = args.noise.now in
    let l = c.count_block-l.result in
    let s = c.body_length-size.result in
    let between = c.count_answer-between.result in
    let (answer, shown) =
    by-parts k batch noise args.out.now c.count-m.ensures.0 c.body_length-size.ensures.value c.count_answer-between.ensures c.count_block-l.ensures
    c.open_sealed.ensures.out_after in
    let p = err_from_is_err_and c.from_residual-in_err-answer.result c.from_residual-in_err-answer.ensures.1 in
    let made = given-done (sym c.in_ok-opened.was ∙ c.open_sealed.ensures.value) in
    let refused = sym answer ∙ sealed_said k batch 2 between noise (blocks_of batch l s) (told_tag batch s)
    ∙ then_passed (opened_answer (batch_outcome k batch noise) (blocks_of batch l s) (told_tag batch s)) made.0
    ∙ sym (ap (λ (o : OpenedSealed). o.answer) made.1)
    ∙ c.in_err-answer.was in
    record { value = p.1 ∙ ap Err p.2 ∙ sym (then-failed (Ok (count_of batch)) refused); out_after = shown }

pub returns : goal.returns
returns c =
    let args = c.args in
    let k = args.key.now in
    let batch = args.batch.now in
    let noise = args.noise.now in
    let l = c.count_block-l.result in
    let s = c.body_length-size.result in
    let between = c.count_answer-between.result in
    let m = c.count-m.ensures.0 in
    let (answer, shown) =
    by-parts k batch noise args.out.now m c.body_length-size.ensures.value c.count_answer-between.ensures c.count_block-l.ensures
    c.open_sealed.ensures.out_after in
    let made = given-done (sym c.in_ok-opened.was ∙ c.open_sealed.ensures.value) in
    let done = sym answer ∙ sealed_said k batch 2 between noise (blocks_of batch l s) (told_tag batch s)
    ∙ then_passed (opened_answer (batch_outcome k batch noise) (blocks_of batch l s) (told_tag batch s)) made.0
    ∙ sym (ap (λ (o : OpenedSealed). o.answer) made.1)
    ∙ c.in_ok-answer.was in
    record { value = ap Ok m ∙ sym (then_passed (Ok (count_of batch)) done); out_after = shown }

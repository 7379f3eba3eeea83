use mathlib.Core.Path.{sym, ap, ◌∙◌}
use mathlib.Core.List.{List, ◌++◌}
use Prim.Native.Nat.{ℕ}
use Rattle.std.proofs.Common.{rules}
use Rattle.derivation.specs.Derivation.{under_keystream}
use Rattle.answers.specs.Answers.{on_done, Answer}
use Rattle.answers.proofs.AnswerLaws.{given-done, given-refused, then_passed, then-failed}
use Rattle.sealed_records.specs.Front.{sealed_front_answer}
use Rattle.secret_keys.specs.SecretKeys.{secret_answer}
use Rattle.calls.specs.Calls.{opened_answer}
use Rattle.recovery.specs.declared.Recovered.{Recovered}
use Rattle.opening.specs.declared.OpenedSealed.{OpenedSealed}
use Rattle.opening.specs.Parts.{opened_outcome}
use Rattle.opening.proofs.Laws.{sealed_said, entry-written}
use Rattle.opening.proofs.open_sealed.Goals as goal

pub returns-in_err-r : goal.returns-in_err-r
returns-in_err-r c =
    let args = c.args in
    let k = args.key.now in
    let sealed = args.sealed.now in
    let blocks = args.front.now ++ args.body.now in
    let refused = given-refused _ (sym c.in_err-r.was ∙ c.recover_sealed.ensures) in
    let said = sealed_said k sealed args.version args.between args.noise.now blocks args.tag.now
    ∙ then-failed (opened_answer (opened_outcome k sealed args.noise.now) blocks args.tag.now) refused in
    search (rules, refused, said)

pub returns : goal.returns
returns c =
    let args = c.args in
    let k = args.key.now in
    let sealed = args.sealed.now in
    let body = args.body.now in
    let old = args.out.now in
    let blocks = args.front.now ++ body in
    let o = opened_outcome k sealed args.noise.now in
    let made = given-done (sym c.in_ok-r.was ∙ c.recover_sealed.ensures) in
    let said = sealed_said k sealed args.version args.between args.noise.now blocks args.tag.now ∙ then_passed (opened_answer o blocks args.tag.now) made.0 in
    let answer = ap (λ (r : Recovered). r.answer) made.1 ∙ sym said in
    let shown = c.write_entry.ensures ∙ ap (λ (a : Answer). on_done a (under_keystream c.in_ok-r.r.k0 body) old) answer
    ∙ entry-written (secret_answer k) (sealed_front_answer args.version args.between sealed) o blocks args.tag.now body old (ap (λ (r : Recovered). r.k0) made.1) in
    let given = ap (λ (r : Recovered). let opened : OpenedSealed = record { answer = r.answer; quotients = r.quotients } in opened) made.1 in
    search (rules, made.0, shown, given)

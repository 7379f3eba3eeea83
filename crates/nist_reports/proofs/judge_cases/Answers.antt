use borrow.Author.Tests.{eq-eqb, ne_eqb}
use mathlib.Core.Path.{◌≡◌, refl, sym, ap, ◌∙◌}
use Prim.Native.Nat.{ℕ, ◌<◌}
use native.Mathlib.Omega.{arith}
use lib.ListN.{length}
use Rattle.vectors.specs.declared.MalformedAt.TheVariants.{Line}
use Rattle.std.specs.Prelude.{Err}
use Rattle.response_files.proofs.Lines.{after-within}
use Rattle.nist_reports.specs.Reports.{report_on}
use Rattle.nist_reports.proofs.Cases.{case_shorter, report_end, report_blank, report-agreed, report-differed, report-malformed}
use Rattle.nist_reports.proofs.judge_cases.Goals as goal
use Rattle.nist_reports.proofs.judge_cases.Goals.{in-Agreed, in-Differed}

pub loop-rest-init : goal.loop-rest-init
unfolding report_on
loop-rest-init c = (omega arith, refl)

pub loop-rest-smaller-then-is_blank : goal.loop-rest-smaller-then-is_blank
loop-rest-smaller-then-is_blank c = rw c.after_line-rest.ensures (omega (arith, after-within c.loop-rest.rest.now))

pub loop-rest-preserved-then-is_blank : goal.loop-rest-preserved-then-is_blank
loop-rest-preserved-then-is_blank c =
    let at-loop = c in
    let rest = at-loop.loop-rest.rest.now in
    let blank = sym c.is_blank.ensures ∙ c.if-is_blank.true in
    rw c.after_line-rest.ensures
    (omega (arith, after-within rest), sym (report_blank _ _ _ _ _ _ _ _ c.loop-rest-test.true blank) ∙ at-loop.loop-rest.invariant.1)

pub returns-in-Malformed : goal.returns-in-Malformed
returns-in-Malformed c =
    let judged = c in
    let some = judged.loop-rest-test.true in
    let blank = sym judged.is_blank.ensures ∙ judged.if-is_blank.false in
    let bad = sym judged.judge_case.ensures ∙ c.in-Malformed.is in
    ap (λ (n : ℕ). Err (Line n)) c.line_number.ensures
    ∙ sym (report-malformed _ _ _ _ _ _ _ _ some blank _ bad)
    ∙ judged.loop-rest.invariant.1

pub loop-rest-smaller : goal.loop-rest-smaller
loop-rest-smaller c =
    let turn = c in
    rw c.after_case-rest.ensures
    (case_shorter turn.args.kind turn.loop-rest.rest.now turn.loop-rest-test.true)

pub loop-rest-preserved : goal.loop-rest-preserved
loop-rest-preserved c =
    let judged = c in
    let at-loop = judged in
    let rest = at-loop.loop-rest.rest.now in
    let some : 0 < length rest = judged.loop-rest-test.true in
    let blank = sym judged.is_blank.ensures ∙ judged.if-is_blank.false in
    let shorter = case_shorter at-loop.args.kind rest some in
    let verdict = sym judged.judge_case.ensures in
    let so_far = at-loop.loop-rest.invariant.1 in
    rw (c.after_case-rest.ensures, c.next_chain-c.ensures)
    (elim c.match-judge_case.branch [
      | in-Agreed w ↦ rw (w.agreed-is, w.differed-is) (omega arith, sym (report-agreed _ _ _ _ _ _ _ _ some blank (verdict ∙ w.in-Agreed.is)) ∙ so_far)
      | in-Differed w ↦ rw (w.agreed-is, w.differed-is) (omega arith, sym (report-differed _ _ _ _ _ _ _ _ some blank (verdict ∙ w.in-Differed.is)) ∙ so_far)
    ])

pub returns-then-agreed-differed-eq0 : goal.returns-then-agreed-differed-eq0
returns-then-agreed-differed-eq0 c =
    let empty : length c.loop-rest.rest.now ≡ 0 = omega arith in
    let none = sym (report_end _ _ _ _ _ _ _ _ empty) ∙ c.loop-rest.invariant.1 in
    ap (λ (n : ℕ). Err (Line n)) c.line_number-then-agreed-differed-eq0.ensures ∙ rw (eq-eqb _ 0 c.if-agreed-differed-eq0.true) at none

pub returns : goal.returns
returns c =
    let empty : length c.loop-rest.rest.now ≡ 0 = omega arith in
    let none = sym (report_end _ _ _ _ _ _ _ _ empty) ∙ c.loop-rest.invariant.1 in
    rw (ne_eqb _ 0 c.if-agreed-differed-eq0.false) at none

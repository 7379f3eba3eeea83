use Prim.Native.Nat.{ℕ}
use mathlib.Core.Path.{ap}
use borrow.Author.Tests.{eq-eqb, ne_eqb}
use Rattle.vectors.specs.declared.MalformedAt.TheVariants.{Line}
use Rattle.std.specs.Prelude.{Err}
use Rattle.nist_reports.specs.Reports.{report_plain}
use Rattle.nist_reports.proofs.judge_plain.Goals as goal

pub returns-then-number-eq0 : goal.returns-then-number-eq0
unfolding report_plain
returns-then-number-eq0 c =
    rw (← c.header_number-number.ensures, ← c.body-body.ensures, eq-eqb _ 0 c.if-number-eq0.true)
    (ap (λ (n : ℕ). Err (Line n)) c.line_number.ensures)

pub returns : goal.returns
unfolding report_plain
returns c =
    rw (← c.header_number-number.ensures, ← c.body-body.ensures, ne_eqb _ 0 c.if-number-eq0.false)
    (rw c.no_chain.ensures at c.judge_cases.ensures)

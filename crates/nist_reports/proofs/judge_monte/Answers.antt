use Prim.Native.Nat.{ℕ}
use mathlib.Core.Path.{sym, ap, ◌∙◌}
use Rattle.vectors.specs.declared.MalformedAt.TheVariants.{Line}
use Rattle.std.specs.Prelude.{Err}
use Rattle.nist_reports.specs.Reports.{report_monte}
use Rattle.nist_reports.proofs.judge_monte.Goals as goal

pub returns-then-not-is_monte : goal.returns-then-not-is_monte
unfolding report_monte
returns-then-not-is_monte c =
    rw (← c.body-body.ensures, sym c.is_monte.ensures ∙ c.if-not-is_monte.true)
    (ap (λ (n : ℕ). Err (Line n)) c.line_number.ensures)

pub returns : goal.returns
unfolding report_monte
returns c =
    rw (
      ← c.body-body.ensures,
      sym c.is_monte.ensures ∙ c.if-not-is_monte.false,
      ← c.value.ensures,
      ← c.first_chain-chain.ensures,
      ← c.after_line.ensures,
    )
    c.judge_cases.ensures

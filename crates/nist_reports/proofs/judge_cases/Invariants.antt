use mathlib.Core.Path.{◌≡◌}
use Prim.Native.Nat.{◌+◌, ◌≤◌}
use lib.ListN.{length}
use Rattle.nist_reports.specs.Reports.{report_on}
use Rattle.nist_reports.proofs.Cases.{report_from}
use Rattle.nist_reports.proofs.judge_cases.Given as goal

abbrev pub invariant-loop-rest : goal.invariant-loop-rest
invariant-loop-rest l =
    (l.agreed + l.differed + length l.rest ≤ length l.body)
    × (report_from l.function l.kind l.number l.text l.agreed l.differed l.c l.rest ≡ report_on l.function l.kind l.number l.initial.c l.text l.body)

abbrev pub decreases-loop-rest : goal.decreases-loop-rest
decreases-loop-rest l = length l.rest

use mathlib.Core.Path.{◌≡◌}
use lib.ListN.{length}
use Rattle.response_files.specs.Lines.{lines}
use Rattle.response_files.specs.Headers.{body_from}
use Rattle.response_files.proofs.body.Given as goal

abbrev pub invariant-loop-rest : goal.invariant-loop-rest
invariant-loop-rest l = body_from (lines l.rest) ≡ body_from (lines l.text)

abbrev pub decreases-loop-rest : goal.decreases-loop-rest
decreases-loop-rest l = length l.rest

use mathlib.Core.Path.{◌≡◌}
use lib.ListN.{length}
use Rattle.response_files.specs.Lines.{lines}
use Rattle.response_files.specs.Headers.{number_from}
use Rattle.response_files.proofs.header_number.Given as goal

abbrev pub invariant-loop-rest : goal.invariant-loop-rest
invariant-loop-rest l = number_from l.name l.number (lines l.rest) ≡ number_from l.name 0 (lines l.text)

abbrev pub decreases-loop-rest : goal.decreases-loop-rest
decreases-loop-rest l = length l.rest

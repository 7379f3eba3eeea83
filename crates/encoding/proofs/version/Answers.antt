use native.Mathlib.Omega.{arith}
use Rattle.encoding.specs.Header.{version_of}
use Rattle.encoding.proofs.version.Goals as goal

pub returns : goal.returns
unfolding version_of
returns c = omega (arith, c.word.ensures, c.byte_at-2.ensures, c.byte_at.ensures)

use mathlib.Core.Path.{refl, sym}
use native.Mathlib.Omega.{arith}
use lib.Seq.{set_out}
use Rattle.lists.specs.Table.{zeros}
use Rattle.lists.proofs.Zeros.{size-zeros}
use Rattle.example_records.specs.Made.{term}
use Rattle.example_records.proofs.term.Goals as goal

pub returns-then-k-lt-DEGREE : goal.returns-then-k-lt-DEGREE
unfolding term
returns-then-k-lt-DEGREE c = refl

pub returns-else-k-lt-DEGREE : goal.returns-else-k-lt-DEGREE
unfolding term
returns-else-k-lt-DEGREE c = sym (set_out (zeros 1024) c.args.k c.args.c (omega (arith, c.if-k-lt-DEGREE.false, size-zeros 1024)))

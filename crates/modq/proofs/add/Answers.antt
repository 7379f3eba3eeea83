use native.Mathlib.Omega.{arith}
use Rattle.modq.proofs.add.Goals as goal

pub returns : goal.returns
returns c =
    omega (arith, c.add_reduced.ensures, c.reduce-2.ensures, c.reduce.ensures)

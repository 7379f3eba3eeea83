use lib.ListN.{length}
use Rattle.reciprocals.proofs.AreReciprocals.{Multiplied}
use Rattle.reciprocals.proofs.are_reciprocals.Given as goal

abbrev pub invariant-loop-a : goal.invariant-loop-a
invariant-loop-a l = Multiplied l.fn.x l.fn.y l.all (length l.yielded)

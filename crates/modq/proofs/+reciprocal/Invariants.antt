use Rattle.modq.proofs.+reciprocal.Given as goal

abbrev pub decreases-reciprocal : goal.decreases-reciprocal
decreases-reciprocal l = l.x

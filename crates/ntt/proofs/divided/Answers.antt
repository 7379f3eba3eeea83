use Rattle.ntt.proofs.divided.Goals as goal

pub returns : goal.returns
returns c = c.scaled.ensures

use Rattle.shake.specs.Shake.{shake256}
use Rattle.shake.proofs.shake256.Goals as goal

pub returns : goal.returns
unfolding shake256
returns c = c.shake.ensures

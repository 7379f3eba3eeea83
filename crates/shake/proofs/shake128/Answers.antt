use Rattle.shake.specs.Shake.{shake128}
use Rattle.shake.proofs.shake128.Goals as goal

pub returns : goal.returns
unfolding shake128
returns c = c.shake.ensures

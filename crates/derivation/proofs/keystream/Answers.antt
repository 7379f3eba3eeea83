use Rattle.derivation.specs.Derivation.{keystream}
use Rattle.derivation.proofs.keystream.Goals as goal

pub returns : goal.returns
unfolding keystream
returns c = cc

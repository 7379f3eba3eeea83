use Rattle.derivation.specs.Derivation.{key_material}
use Rattle.derivation.proofs.key_material.Goals as goal

pub returns : goal.returns
unfolding key_material
returns c = cc

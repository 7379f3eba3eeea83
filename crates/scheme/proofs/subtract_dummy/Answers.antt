use Rattle.exactness.specs.Scheme as AnySetting
use Rattle.scheme.proofs.Steps.{triple-same}
use Rattle.scheme.proofs.subtract_dummy.Goals as goal

pub returns : goal.returns
unfolding AnySetting.without_dummy
returns c =
    triple-same c.difference.ensures c.difference-2.ensures c.difference-3.ensures

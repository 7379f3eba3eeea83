use mathlib.Core.Path.{ap₂}
use mathlib.Core.Bool.{◌&&◌}
use Rattle.exactness.specs.Scheme as AnySetting
use Rattle.scheme.proofs.recovers.Goals as goal

pub returns : goal.returns
unfolding AnySetting.recovers
returns c =
    ap₂ ◌&&◌ c.is_within-r_within.ensures c.is_within-e1_within.ensures

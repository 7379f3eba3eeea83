use mathlib.Core.Path.{ap₂}
use mathlib.Core.Bool.{◌&&◌}
use Rattle.exactness.specs.Scheme as AnySetting
use Rattle.scheme.proofs.is_ternary.Goals as goal

pub returns : goal.returns
unfolding AnySetting.is_ternary
returns c =
    ap₂ ◌&&◌ (ap₂ ◌&&◌ c.is_within-r_ternary.ensures c.is_within-e1_ternary.ensures) c.is_within-e2_ternary.ensures

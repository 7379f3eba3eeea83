-- Two tests that pass together.
use mathlib.Core.Path.{◌≡◌, refl}
use mathlib.Core.Bool.{Bool, true, false, false≢true, ◌&&◌}
use lib.Dec.{T}

pub both : (a b : Bool) → a && b ≡ true → (a ≡ true) × (b ≡ true)
both true b e = (refl, e)
both false b e = absurd (false≢true e)

-- the same of tests that are computed
pub both_computed : (a b : Bool) → T (a && b) → T a × T b
both_computed true b t = (tt, t)
both_computed false b t = absurd t

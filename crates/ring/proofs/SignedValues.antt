-- How signed values are held: by the bits of a width, from which they are read back as they are, also when they go to a wider one.
use mathlib.Core.Path.{◌≡◌, sym, ap, subst, ◌∙◌}
use Prim.Native.Nat.{◌^◌, ◌<◌}
use lib.Dec.{T, leb}
use lib.IntN.{ℤ}
use lib.Signed.{mag}
use mir.Syntax.{Width}
use mir.Val.{hbits, SFits, to_z, of_z}
use mir.Facts.{sfits_widen, to_z-of_z}

pub read_back : (w : Width) (z : ℤ) → mag z < 2 ^ hbits w → to_z w (of_z w z) ≡ z
read_back w z h = to_z-of_z {w = w} {z = z} (record { sfits = h })

module _ (v w : Width) (z : ℤ) (wider : T (leb (hbits v) (hbits w))) (fits : mag z < 2 ^ hbits v) where
  still-fits : SFits w z
  still-fits = sfits_widen {w = v} wider (record { sfits = fits })

  pub widened-fits : SFits w (to_z v (of_z v z))
  widened-fits = subst (SFits w) (sym (read_back v z fits)) still-fits

  pub widened : to_z w (of_z w (to_z v (of_z v z))) ≡ z
  widened = ap (λ (y : ℤ). to_z w (of_z w y)) (read_back v z fits) ∙ to_z-of_z {w = w} {z = z} still-fits

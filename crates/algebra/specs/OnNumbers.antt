-- Functions on lists of numbers that carry out the product and a transform of R[X]/(X^(p + 1) - r); `class` takes a number to its class in R.
use Rattle.std.specs.Prelude.{◌≡◌, List, map, ℕ, suc, ◌≤◌, length}
use Rattle.algebra.specs.Ring.{CommRing}
use Rattle.algebra.specs.Polynomials as P
use Rattle.algebra.specs.Transform.{Transform}
use Rattle.algebra.specs.Transform as T
use Rattle.algebra.specs.Numbers.{Below, Element}

pub record IsProduct {F : Type 0} (R : CommRing F) (class : ℕ → F) (q p : ℕ) (r : List F) (times : List ℕ → List ℕ → List ℕ) : Type 0 where
  pub fits : length r ≤ suc p
  pub element : (a b : List ℕ) → Element q (suc p) (times a b)
  pub same : (a b : List ℕ) → length a ≡ suc p → length b ≡ suc p
      → map class (times a b) ≡ P.product R p r (map class a) (map class b)

pub record IsTransform {F : Type 0} (R : CommRing F) (class : ℕ → F) (q p : ℕ) (r : List F) (t : Transform R p r) (forth back : List ℕ → List ℕ) : Type 0 where
  pub forth_is : (a : List ℕ) → length a ≡ suc p → map class (forth a) ≡ T.forward R t (map class a)
  pub forth-below : (a : List ℕ) → Element q (suc p) a → Below q (forth a)
  pub back_is : (v : List ℕ) → length v ≡ suc p → map class (back v) ≡ T.backward R t (map class v)
  pub back_below : (v : List ℕ) → Below q (back v)

-- The values of polynomials, and lists of values.
use Rattle.std.specs.Prelude.{◌≡◌, ℕ}
use mathlib.Core.List.{List, [], ◌∷◌, map, zip_with}
use Rattle.algebra.specs.Ring.{CommRing, pow}

module _ {F : Type 0} (R : CommRing F) where
  infixl 65 ◌⊕◌
  infixl 70 ◌⊗◌
  open R use {◌⊕◌, ◌⊗◌, 𝟘}

  -- a₀ + a₁ x + a₂ x² + .., by Horner's rule
  unfoldable pub value : F → List F → F
  value x [] = 𝟘
  value x (c ∷ a) = c ⊕ x ⊗ value x a

  abbrev pub values : List F → List F → List F
  values points a = map (λ x. value x a) points

  -- x is a root of X^n - r
  abbrev pub Root : ℕ → List F → F → Type 0
  Root n r x = value x r ≡ pow R x n

  -- every entry has the property
  abbrev pub All : (F → Type 0) → List F → Type 0
  All S [] = Unit {0}
  All S (x ∷ l) = S x × All S l

  abbrev pub NoZero : List F → Type 0
  NoZero l = All (λ x. ¬ (x ≡ 𝟘)) l

  abbrev pub scaled : F → List F → List F
  scaled k a = map (λ x. k ⊗ x) a

  abbrev pub pointwise : List F → List F → List F
  pointwise a b = zip_with ◌⊗◌ a b

-- R[X]/(X^n - r) for a commutative ring R, a degree n = p + 1 and any rule X^n = r, where r is a list of at most n coefficients.
-- Its elements are lists of n coefficients, that of X^0 first.
use Rattle.std.specs.Prelude.{◌≡◌, cond, List, [], ◌∷◌, ℕ, zero, suc, ltb, length, get_or}
use Rattle.lists.specs.Table.{table}
use Rattle.algebra.specs.Ring.{CommRing}

module _ {F : Type 0} (R : CommRing F) where
  infixl 65 ◌⊕◌
  infixl 70 ◌⊗◌
  open R use {◌⊕◌, ◌⊗◌, neg, 𝟘, 𝟙}

  -- the coefficient of X^k
  abbrev pub coefficient : List F → ℕ → F
  coefficient l k = get_or l k 𝟘

  -- l with zeros up to n coefficients
  abbrev pub padded : ℕ → List F → List F
  padded n l = table n (coefficient l)

  -- coefficient by coefficient, on n of them
  unfoldable pub plus : ℕ → List F → List F → List F
  plus n a b = table n (λ k. coefficient a k ⊕ coefficient b k)

  unfoldable pub negate : ℕ → List F → List F
  negate n a = table n (λ k. neg (coefficient a k))

  -- ---- sequences of coefficients

  infixl 55 ◌⊞◌
  infixl 60 ◌·◌
  unfoldable pub ◌⊞◌ : (ℕ → F) → (ℕ → F) → ℕ → F
  ◌⊞◌ u v = λ k. u k ⊕ v k

  unfoldable pub ◌·◌ : F → (ℕ → F) → ℕ → F
  ◌·◌ x u = λ k. x ⊗ u k

  unfoldable pub 𝟎 : ℕ → F
  𝟎 = λ k. 𝟘

  -- a polynomial a applied to an operator T and then to u: a₀ u + T (a₁ u + T (a₂ u + ..))
  unfoldable pub act : ((ℕ → F) → ℕ → F) → List F → (ℕ → F) → ℕ → F
  act T [] u = 𝟎
  act T (x ∷ a) u = x · u ⊞ T (act T a u)

  -- ---- modulo X^(p + 1) - r

  module _ (p : ℕ) (r : List F) where
    -- times X, without what becomes of X^p
    unfoldable pub shifted : (ℕ → F) → ℕ → F
    shifted u zero = 𝟘
    shifted u (suc k) = cond (ltb k p) (u k) 𝟘

    -- times X, where X · X^p is r
    unfoldable pub times_x : (ℕ → F) → ℕ → F
    times_x u = λ k. shifted u k ⊕ u p ⊗ coefficient r k

    -- times X^i
    unfoldable pub times_power : ℕ → (ℕ → F) → ℕ → F
    times_power zero u = u
    times_power (suc i) u = times_x (times_power i u)

    -- a(X) b: coefficient k is the sum of the a_i (X^i b)_k (`act-sum` in proofs/Polynomials)
    unfoldable pub product : List F → List F → List F
    product a b = table (suc p) (act times_x a (coefficient b))

    -- b is a unit of the ring
    abbrev pub Invertible : List F → Type 0
    Invertible b = (i : List F) × (length i ≡ suc p) × (product b i ≡ padded (suc p) (𝟙 ∷ []))

  -- the carrier of the ring
  abbrev pub Polynomial : ℕ → Type 0
  Polynomial p = (l : List F) × (length l ≡ suc p)

  -- the rule X^n = - 1
  abbrev pub negacyclic : List F
  negacyclic = neg 𝟙 ∷ []

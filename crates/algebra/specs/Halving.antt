-- The tree that halves: from a root ψ with ψ^t = - 1, X^(2 h) - ψ^c is (X^h - ψ^(c / 2)) (X^h - ψ^(c / 2 + t)), down to blocks of n coefficients.
use Rattle.std.specs.Prelude.{List, [], ◌∷◌, ◌++◌, ℕ, zero, suc, ◌+◌, ◌-◌, ◌*◌, ◌/◌, ◌%◌, ◌^◌}
use Rattle.algebra.specs.Ring.{CommRing, pow}
use Rattle.algebra.specs.Transform.{Split, Tree, block, branch}

module _ {F : Type 0} (R : CommRing F) (ψ : F) where
  infixl 65 ◌⊕◌
  open R use {◌⊕◌, neg, 𝟙}

  -- X^(2 h) - ψ^(2 e); the inverse of ψ^e is - ψ^(t - e)
  abbrev pub halves : ℕ → ℕ → ℕ → Split R
  halves t h e = record {
    half = h;
    z = pow R ψ e;
    z' = neg (pow R ψ e);
    α = 𝟙;
    β = 𝟙;
    γ = neg (pow R ψ (t - e));
    δ = pow R ψ (t - e);
    m = 𝟙 ⊕ 𝟙;
  }

  -- modulo X^(n 2^d) - ψ^c, where `last c` is a tree modulo X^n - ψ^c
  unfoldable pub halving : (t n : ℕ) → (ℕ → Tree R) → (d c : ℕ) → Tree R
  halving t n last zero c = last c
  halving t n last (suc d) c = branch (halves t (n * 2 ^ d) (c / 2)) (halving t n last d (c / 2)) (halving t n last d (c / 2 + t))

  -- modulo X - ψ^c
  abbrev pub point : ℕ → Tree R
  point c = block (pow R ψ c ∷ []) (λ v. v)

-- the exponents of ψ at the points, where the halving goes down to single coefficients
unfoldable pub exponents : (t d c : ℕ) → List ℕ
exponents t zero c = c ∷ []
exponents t (suc d) c = exponents t d (c / 2) ++ exponents t d (c / 2 + t)

-- the d lowest bits of k in reverse order
unfoldable pub reversed : ℕ → ℕ → ℕ
reversed zero k = 0
reversed (suc d) k = 2 * reversed d (k % 2 ^ d) + k / 2 ^ d

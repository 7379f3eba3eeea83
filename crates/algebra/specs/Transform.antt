-- The transform: a tree of splits that takes the coefficients of a polynomial to its values at the roots of the modulus, and back.
use Rattle.std.specs.Prelude.{◌≡◌, ℕ, suc, ◌+◌, ◌≤◌, length, take, drop}
use mathlib.Core.List.{List, ◌++◌, zip_with}
use Rattle.algebra.specs.Ring.{CommRing, pow}
use Rattle.algebra.specs.Evaluation.{values, Root, All, scaled}

module _ {F : Type 0} (R : CommRing F) where
  infixl 65 ◌⊕◌
  infixl 70 ◌⊗◌
  open R use {◌⊕◌, ◌⊗◌, 𝟘, 𝟙}

  -- One split: from 2 h coefficients to the remainders modulo X^h - z and X^h - z'. The way back multiplies the pairs of the two
  -- remainders by the matrix (α β, γ δ), which is the inverse of (1 z, 1 z') but for the factor m.
  pub record Split : Type 0 where
    pub half : ℕ
    pub z : F
    pub z' : F
    pub α : F
    pub β : F
    pub γ : F
    pub δ : F
    pub m : F

  pub data Tree : Type 0 where
    -- a block that is done at once: its points, and what leads from the values there back to the coefficients
    block : List F → (List F → List F) → Tree
    branch : Split → Tree → Tree → Tree

  -- the remainder modulo X^h - z of 2 h coefficients
  abbrev pub remainder : ℕ → F → List F → List F
  remainder h z a = zip_with (λ x y. x ⊕ z ⊗ y) (take h a) (drop h a)

  -- α u + β v
  abbrev pub combined : F → F → List F → List F → List F
  combined α β u v = zip_with (λ x y. α ⊗ x ⊕ β ⊗ y) u v

  -- all the points of the tree's blocks
  unfoldable pub points : Tree → List F
  points (block v f) = v
  points (branch s P Q) = points P ++ points Q

  -- from coefficients to values
  unfoldable pub evaluate : Tree → List F → List F
  evaluate (block v f) a = values R v a
  evaluate (branch s P Q) a = evaluate P (remainder s.half s.z a) ++ evaluate Q (remainder s.half s.z' a)

  -- from values to a multiple of the coefficients
  unfoldable pub interpolate : Tree → List F → List F
  interpolate (block v f) w = f w
  interpolate (branch s P Q) w =
      let u = interpolate P (take s.half w) in
      let v = interpolate Q (drop s.half w) in
      combined s.α s.β u v ++ combined s.γ s.δ u v

  -- ---- when a tree is sound for n coefficients and a set S of roots: its points are in S, and interpolation gives k times the coefficients

  pub record IsBlock (v : List F) (f : List F → List F) (n : ℕ) (S : F → Type 0) (k : F) : Type 0 where
    pub count : length v ≡ n
    pub roots : All R S v
    pub size : (w : List F) → length w ≡ n → length (f w) ≡ n
    pub undo : (a : List F) → length a ≡ n → f (values R v a) ≡ scaled R k a
    pub redo : (w : List F) → length w ≡ n → values R v (f w) ≡ scaled R k w

  -- the two matrices are inverse to each other but for the factor m
  pub record Inverts (s : Split) : Type 0 where
    -- (α β, γ δ) (1 z, 1 z') = m
    pub left_11 : s.α ⊕ s.β ≡ s.m
    pub left_12 : s.α ⊗ s.z ⊕ s.β ⊗ s.z' ≡ 𝟘
    pub left_21 : s.γ ⊕ s.δ ≡ 𝟘
    pub left_22 : s.γ ⊗ s.z ⊕ s.δ ⊗ s.z' ≡ s.m
    -- (1 z, 1 z') (α β, γ δ) = m
    pub right_11 : s.α ⊕ s.z ⊗ s.γ ≡ s.m
    pub right_12 : s.β ⊕ s.z ⊗ s.δ ≡ 𝟘
    pub right_21 : s.α ⊕ s.z' ⊗ s.γ ≡ 𝟘
    pub right_22 : s.β ⊕ s.z' ⊗ s.δ ≡ s.m

  pub record IsSplit (s : Split) (n : ℕ) (S : F → Type 0) : Type 0 where
    pub halves : n ≡ s.half + s.half
    pub root : (x : F) → pow R x s.half ≡ s.z → S x
    pub root' : (x : F) → pow R x s.half ≡ s.z' → S x
    pub inverts : Inverts s

  -- the two branches have one factor, and k is m times it
  pub record IsBranch (s : Split) (n : ℕ) (S : F → Type 0) (k : F) (Left Right : F → Type 0) : Type 0 where
    pub split : IsSplit s n S
    pub rest : F
    pub factor : k ≡ s.m ⊗ rest
    pub left : Left rest
    pub right : Right rest

  abbrev pub Sound : Tree → ℕ → (F → Type 0) → F → Type 0
  Sound (block v f) n S k = IsBlock v f n S k
  Sound (branch s P Q) n S k =
      IsBranch s n S k (λ j. Sound P s.half (λ x. pow R x s.half ≡ s.z) j) (λ j. Sound Q s.half (λ x. pow R x s.half ≡ s.z') j)

  -- ---- a transform of the ring R[X]/(X^(p + 1) - r)

  pub record Transform (p : ℕ) (r : List F) : Type 0 where
    pub fits : length r ≤ suc p
    pub tree : Tree
    pub factor : F
    pub sound : Sound tree (suc p) (Root R (suc p) r) factor
    pub unfactor : F
    pub unfactor_is : unfactor ⊗ factor ≡ 𝟙

  module _ {p : ℕ} {r : List F} (T : Transform p r) where
    abbrev pub forward : List F → List F
    forward a = evaluate T.tree a

    abbrev pub backward : List F → List F
    backward v = scaled R T.unfactor (interpolate T.tree v)

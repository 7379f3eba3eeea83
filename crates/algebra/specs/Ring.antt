-- Commutative rings with one.
use Rattle.std.specs.Prelude.{◌≡◌, ℕ, zero, suc}

pub record CommRing (F : Type 0) : Type 0 where
  infixl 65 ◌⊕◌
  infixl 70 ◌⊗◌
  pub ◌⊕◌ : F → F → F
  pub ◌⊗◌ : F → F → F
  pub neg : F → F
  pub 𝟘 : F
  pub 𝟙 : F
  pub plus_assoc : (a b c : F) → (a ⊕ b) ⊕ c ≡ a ⊕ (b ⊕ c)
  pub plus_comm : (a b : F) → a ⊕ b ≡ b ⊕ a
  pub plus-zero : (a : F) → a ⊕ 𝟘 ≡ a
  pub plus-neg : (a : F) → a ⊕ neg a ≡ 𝟘
  pub times_assoc : (a b c : F) → (a ⊗ b) ⊗ c ≡ a ⊗ (b ⊗ c)
  pub times_comm : (a b : F) → a ⊗ b ≡ b ⊗ a
  pub times-one : (a : F) → a ⊗ 𝟙 ≡ a
  pub times-plus : (a b c : F) → a ⊗ (b ⊕ c) ≡ a ⊗ b ⊕ a ⊗ c

module _ {F : Type 0} (R : CommRing F) where
  infixl 65 ◌⊕◌
  infixl 70 ◌⊗◌
  open R use {◌⊕◌, ◌⊗◌, 𝟘, 𝟙}

  -- x ^ n
  unfoldable pub pow : F → ℕ → F
  pow x zero = 𝟙
  pow x (suc n) = x ⊗ pow x n

  -- f 0 + .. + f (n - 1)
  unfoldable pub sum : ℕ → (ℕ → F) → F
  sum zero f = 𝟘
  sum (suc n) f = f zero ⊕ sum n (λ i. f (suc i))

  -- a unit, with its inverse
  abbrev pub IsUnit : F → Type 0
  IsUnit x = (y : F) × (x ⊗ y ≡ 𝟙)

  pub record IsField : Type 0 where
    pub one_not_zero : ¬ (𝟙 ≡ 𝟘)
    pub inverse : (x : F) → ¬ (x ≡ 𝟘) → IsUnit x

-- How far a ring element lies from 0, counted in ones, and how far a rule spreads coefficients.
use Rattle.std.specs.Prelude.{◌≡◌, List, ℕ, zero, suc, ◌-◌, ◌*◌, ◌%◌, ◌≤◌, ◌<◌, min}
use Rattle.algebra.specs.Ring.{CommRing}
use Rattle.algebra.specs.Polynomials.{times_power}

module _ {F : Type 0} (R : CommRing F) where
  infixl 65 ◌⊕◌
  open R use {◌⊕◌, neg, 𝟘, 𝟙}

  -- 1 + .. + 1
  unfoldable pub count : ℕ → F
  count zero = 𝟘
  count (suc n) = 𝟙 ⊕ count n

  -- x is k or - k for some k ≤ b
  pub data Within (b : ℕ) (x : F) : Type 0 where
    positive : (k : ℕ) → k ≤ b → x ≡ count k → Within b x
    negative : (k : ℕ) → k ≤ b → x ≡ neg (count k) → Within b x

  -- modulo X^(p + 1) - r the powers of X make coefficients at most κ times as large
  abbrev pub Spread : ℕ → List F → ℕ → Type 0
  Spread p r κ = (b : ℕ) (u : ℕ → F) → ((k : ℕ) → Within b (u k)) → (i k : ℕ) → i < suc p → Within (κ * b) (times_power R p r i u k)

-- the size of a number modulo q: its distance to the nearest multiple of q
abbrev pub magnitude : ℕ → ℕ → ℕ
magnitude q x = min (x % q) (q - x % q)

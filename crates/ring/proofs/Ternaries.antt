-- Ternary elements, coefficient by coefficient.
use mathlib.Core.Path.{◌≡◌}
use mathlib.Core.Logic.{◌⊎◌, inl, inr}
use mathlib.Core.List.{List}
use Prim.Native.Nat.{ℕ, ◌-◌, ◌≤◌, ◌<◌}
use native.Mathlib.Decide.{dec_lt}
use native.Mathlib.Omega.{arith}
use lib.ListN.{get_or}
use Rattle.algebra.specs.Size.{magnitude}
use Rattle.algebra.proofs.Numbers.{below_at}
use Rattle.modq.proofs.Prime.{q-positive}
use Rattle.ring.specs.Ring.{q, n}
use Rattle.ring.specs.Centred.{Ternary}
use Rattle.ring.proofs.Centring.{centred-size}

-- the coefficients are 0, 1 and q - 1
pub ternary_entry : (a : List ℕ) → Ternary a → (i : ℕ) → i < n → (get_or a i 0 ≡ 0) ⊎ (get_or a i 0 ≡ 1) ⊎ (get_or a i 0 ≡ q - 1)
ternary_entry a t i h = by (dec_lt (get_or a i 0) 1) (dec_lt (get_or a i 0) 2)
  where
    below : get_or a i 0 < q
    below = below_at q q-positive a t.0.below i

    small : magnitude q (get_or a i 0) ≤ 1
    small = rw (centred-size (get_or a i 0)) at (t.1 i h)

    by : Dec (get_or a i 0 < 1) → Dec (get_or a i 0 < 2) → (get_or a i 0 ≡ 0) ⊎ (get_or a i 0 ≡ 1) ⊎ (get_or a i 0 ≡ q - 1)
    by (yes l) d = inl (omega arith)
    by (no l) (yes d) = inr (inl (omega arith))
    by (no l) (no d) = inr (inr (omega (arith, below, small)))

-- Complements as sums with all ones.
use mathlib.Core.Path.{◌≡◌, sym, ap, ◌∙◌}
use Prim.Native.Nat.{ℕ, zero, suc, ◌-◌, ◌^◌, ◌<◌}
use native.Mathlib.Omega.{arith}
use lib.Bits.{bit_xor, xor_zero_r}
use Rattle.keccak_steps.specs.Steps.{State, lane, state}
use Rattle.keccak_chi.specs.Complementing.{complement_if, complemented_by}
use Rattle.keccak_chi.proofs.Complements.{xor_ones}
use Rattle.keccak_steps.proofs.States.{Wide, lane-state, state-same, wide-state}

-- the lanes of two states added
abbrev pub sum : State → State → State
sum a b = state (λ x y. bit_xor (lane a x y) (lane b x y))

-- all ones for a mark of 1
unfoldable pub mask : ℕ → ℕ
mask zero = 0
mask (suc n) = 2 ^ 64 - 1

unfoldable pub masks : State → State
masks m = state (λ x y. mask (lane m x y))

if-mask : (k v : ℕ) → v < 2 ^ 64 → complement_if k v ≡ bit_xor v (mask k)
unfolding mask
if-mask zero v h = sym (xor_zero_r v)
if-mask (suc n) v h = sym (xor_ones v h)

mask_lt : (k : ℕ) → mask k < 2 ^ 64
unfolding mask
mask_lt zero = omega arith
mask_lt (suc n) = omega arith

pub masks_wide : (m : State) → Wide (masks m)
unfolding masks
masks_wide m = wide-state (λ x y. mask (lane m x y)) (λ x y hx hy. mask_lt (lane m x y))

pub complemented-sum : (m a : State) → Wide a → complemented_by m a ≡ sum a (masks m)
unfolding masks
complemented-sum m a w =
    state-same _ _
    (λ x y hx hy.
    if-mask (lane m x y) (lane a x y) (w x y hx hy) ∙ ap (bit_xor (lane a x y)) (sym (lane-state (λ x y. mask (lane m x y)) x y hx hy)))

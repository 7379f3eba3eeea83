-- Lanes of 64 bits stay so under the step mappings and the rounds.
use Prim.Native.Nat.{ℕ, zero, suc, ◌+◌, ◌*◌, ◌%◌, ◌^◌, ◌<◌, ◌≤◌}
use native.Mathlib.Nat.{mod-lt}
use native.Mathlib.Omega.{arith}
use lib.Bits.{bit_xor, bit_and, xor_lt, and_lt}
use lib.Dec.{ltb, ltb→lt}
use lib.Pow.{ones_sub-lt}
use Rattle.lists.proofs.Finite.{at_each}
use Rattle.keccak_steps.specs.Constants.{offset, round_constant}
use Rattle.keccak_steps.specs.Steps.{State, lane, state, rotate, complement, parity, effect, theta, rho, pi, iota}
use Rattle.keccak_steps.proofs.States.{Wide, wide-state}
use Rattle.keccak_steps.proofs.Words.{rotate-lt}
use Rattle.keccak.specs.Keccak.{round, rounds, keccak_f}

-- lane (x, y) of chi
unfoldable pub chi_lane : State → ℕ → ℕ → ℕ
chi_lane a x y = bit_xor (lane a x y) (bit_and (complement (lane a ((x + 1) % 5) y)) (lane a ((x + 2) % 5) y))

module _ (a : State) (w : Wide a) where
  pub parity-lt : (x : ℕ) → x < 5 → parity a x < 2 ^ 64
  parity-lt x h =
      let lane-lt : (y : ℕ) → y < 5 → lane a x y < 2 ^ 64 = λ y g. w x y h g in
      xor_lt 64 _ _
      (xor_lt 64 _ _ (xor_lt 64 _ _ (xor_lt 64 _ _ (lane-lt 0 (omega arith)) (lane-lt 1 (omega arith))) (lane-lt 2 (omega arith))) (lane-lt 3 (omega arith)))
      (lane-lt 4 (omega arith))

  pub theta_wide : Wide (theta a)
  theta_wide =
      wide-state (λ x y. bit_xor (lane a x y) (effect a x))
      (λ x y hx hy.
      xor_lt 64 _ _ (w x y hx hy)
      (xor_lt 64 _ _ (parity-lt ((x + 4) % 5) (omega arith)) (rotate-lt 1 _ (parity-lt ((x + 1) % 5) (omega arith)) (omega arith))))

  pub rho_wide : Wide (rho a)
  rho_wide = wide-state (λ x y. rotate (offset x y % 64) (lane a x y)) (λ x y hx hy. rotate-lt (offset x y % 64) _ (w x y hx hy) (mod-lt (offset x y) (omega arith)))

  pub pi_wide : Wide (pi a)
  pi_wide = wide-state (λ x y. lane a ((x + 3 * y) % 5) x) (λ x y hx hy. w ((x + 3 * y) % 5) x (omega arith) hx)

  pub chi-lt : (x y : ℕ) → x < 5 → y < 5 → chi_lane a x y < 2 ^ 64
  unfolding chi_lane
  chi-lt x y hx hy = xor_lt 64 _ _ (w x y hx hy) (and_lt 64 _ _ (ones_sub-lt 64 (lane a ((x + 1) % 5) y)) (w ((x + 2) % 5) y (omega arith) hy))

constant-lt : (ir : ℕ) → ir < 24 → round_constant ir < 2 ^ 64
unfolding round_constant
constant-lt ir h = ltb→lt (round_constant ir) (2 ^ 64) (at_each 24 (λ i. ltb (round_constant i) (2 ^ 64)) tt ir h)

-- iota, on a state that is given by its lanes
module _ (ir : ℕ) (h : ir < 24) (f : ℕ → ℕ → ℕ) (w : (x y : ℕ) → x < 5 → y < 5 → f x y < 2 ^ 64) where
  pub iota_wide : Wide (iota ir (state f))
  iota_wide zero zero hx hy = xor_lt 64 _ _ (w 0 0 hx hy) (constant-lt ir h)
  iota_wide (suc x) zero hx hy = wide-state f w (suc x) 0 hx hy
  iota_wide x (suc y) hx hy = wide-state f w x (suc y) hx hy

-- ---- the rounds

pub round_wide : (a : State) → Wide a → (ir : ℕ) → ir < 24 → Wide (round ir a)
unfolding round chi_lane
round_wide a w ir h =
    let before : State = pi (rho (theta a)) in
    let wide : Wide before = pi_wide (rho (theta a)) (rho_wide (theta a) (theta_wide a w)) in
    iota_wide ir h (chi_lane before) (chi-lt before wide)

pub rounds_wide : (n : ℕ) → n ≤ 24 → (a : State) → Wide a → Wide (rounds n a)
unfolding rounds
rounds_wide zero h a w = w
rounds_wide (suc n) h a w = round_wide (rounds n a) (rounds_wide n (omega arith) a w) n h

pub keccak_wide : (a : State) → Wide a → Wide (keccak_f a)
unfolding keccak_f
keccak_wide a w = rounds_wide 24 (omega arith) a w

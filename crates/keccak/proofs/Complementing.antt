-- The rounds on a state with complemented lanes.
use mathlib.Core.Path.{◌≡◌, refl, sym, ap, ap₂, ◌∙◌}
use Prim.Native.Nat.{ℕ, zero, suc, ◌+◌, ◌*◌, ◌%◌, ◌^◌, ◌<◌, ◌≤◌}
use native.Mathlib.Nat.{mod-lt, zero-add}
use native.Mathlib.Numerals.{add-one}
use native.Mathlib.Omega.{arith}
use lib.Bits.{bit_xor}
use Rattle.lists.proofs.Xor.{xor-swap}
use Rattle.keccak_steps.specs.Constants.{offset}
use Rattle.keccak_steps.specs.Steps.{State, lane, state, rotate, parity, effect, theta, rho, pi, chi, iota}
use Rattle.keccak_chi.specs.Complementing.{complement_if, complemented_by, marks, marks_before_chi, complemented_chi}
use Rattle.keccak_steps.proofs.States.{Wide, lane-state, state-same}
use Rattle.keccak_steps.proofs.Words.{rotate_xor}
use Rattle.keccak_chi.proofs.Complements.{not-not}
use Rattle.keccak_chi.proofs.Masks.{sum, mask, masks, masks_wide, complemented-sum}
use Rattle.keccak.specs.Keccak.{round, rounds, keccak_f}
use Rattle.keccak.specs.Complementing.{complemented, complemented_round}
use Rattle.keccak.proofs.Wide.{parity-lt, theta_wide, rho_wide, pi_wide, rounds_wide}

-- ---- theta, rho and pi are linear

-- the steps before chi
abbrev pub linear : State → State
linear a = pi (rho (theta a))

sums5 : (a0 a1 a2 a3 a4 b0 b1 b2 b3 b4 : ℕ)
    → bit_xor (bit_xor (bit_xor (bit_xor (bit_xor a0 b0) (bit_xor a1 b1)) (bit_xor a2 b2)) (bit_xor a3 b3)) (bit_xor a4 b4)
    ≡ bit_xor (bit_xor (bit_xor (bit_xor (bit_xor a0 a1) a2) a3) a4) (bit_xor (bit_xor (bit_xor (bit_xor b0 b1) b2) b3) b4)
sums5 a0 a1 a2 a3 a4 b0 b1 b2 b3 b4 =
    ap (λ (s : ℕ). bit_xor (bit_xor (bit_xor s (bit_xor a2 b2)) (bit_xor a3 b3)) (bit_xor a4 b4)) (xor-swap a0 b0 a1 b1)
    ∙ ap (λ (s : ℕ). bit_xor (bit_xor s (bit_xor a3 b3)) (bit_xor a4 b4)) (xor-swap (bit_xor a0 a1) (bit_xor b0 b1) a2 b2)
    ∙ ap (λ (s : ℕ). bit_xor s (bit_xor a4 b4)) (xor-swap (bit_xor (bit_xor a0 a1) a2) (bit_xor (bit_xor b0 b1) b2) a3 b3)
    ∙ xor-swap (bit_xor (bit_xor (bit_xor a0 a1) a2) a3) (bit_xor (bit_xor (bit_xor b0 b1) b2) b3) a4 b4

module _ (a b : State) (wa : Wide a) (wb : Wide b) where
  sum-lane : (x y : ℕ) → x < 5 → y < 5 → lane (sum a b) x y ≡ bit_xor (lane a x y) (lane b x y)
  sum-lane = lane-state (λ x y. bit_xor (lane a x y) (lane b x y))

  parity-sum : (x : ℕ) → x < 5 → parity (sum a b) x ≡ bit_xor (parity a x) (parity b x)
  parity-sum x h =
      let at : (y : ℕ) → y < 5 → lane (sum a b) x y ≡ bit_xor (lane a x y) (lane b x y) = λ y g. sum-lane x y h g in
      rw (at 0 (omega arith), at 1 (omega arith), at 2 (omega arith), at 3 (omega arith), at 4 (omega arith))
      (sums5 (lane a x 0) (lane a x 1) (lane a x 2) (lane a x 3) (lane a x 4) (lane b x 0) (lane b x 1) (lane b x 2) (lane b x 3) (lane b x 4))

  effect-sum : (x : ℕ) → effect (sum a b) x ≡ bit_xor (effect a x) (effect b x)
  effect-sum x =
      let before : ℕ = (x + 4) % 5 in
      let after : ℕ = (x + 1) % 5 in
      let hb : before < 5 = omega arith in
      let ha : after < 5 = omega arith in
      ap₂ (λ (p q : ℕ). bit_xor p (rotate 1 q)) (parity-sum before hb) (parity-sum after ha)
      ∙ ap (bit_xor (bit_xor (parity a before) (parity b before))) (rotate_xor 1 (parity a after) (parity b after) (parity-lt a wa after ha) (parity-lt b wb after ha) (omega arith))
      ∙ xor-swap (parity a before) (parity b before) (rotate 1 (parity a after)) (rotate 1 (parity b after))

  theta-sum : theta (sum a b) ≡ sum (theta a) (theta b)
  theta-sum =
      state-same _ _
      (λ x y hx hy.
      ap₂ bit_xor (sum-lane x y hx hy) (effect-sum x)
      ∙ xor-swap (lane a x y) (lane b x y) (effect a x) (effect b x)
      ∙ sym (ap₂ bit_xor (lane-state (λ x y. bit_xor (lane a x y) (effect a x)) x y hx hy) (lane-state (λ x y. bit_xor (lane b x y) (effect b x)) x y hx hy)))

  rho-sum : rho (sum a b) ≡ sum (rho a) (rho b)
  rho-sum =
      state-same _ _
      (λ x y hx hy.
      ap (rotate (offset x y % 64)) (sum-lane x y hx hy)
      ∙ rotate_xor (offset x y % 64) (lane a x y) (lane b x y) (wa x y hx hy) (wb x y hx hy) (mod-lt (offset x y) (omega arith))
      ∙ sym (ap₂ bit_xor (lane-state (λ x y. rotate (offset x y % 64) (lane a x y)) x y hx hy) (lane-state (λ x y. rotate (offset x y % 64) (lane b x y)) x y hx hy)))

linear-sum : (a b : State) → Wide a → Wide b → linear (sum a b) ≡ sum (linear a) (linear b)
linear-sum a b wa wb =
    ap (λ (s : State). pi (rho s)) (theta-sum a b wa wb)
    ∙ ap pi (rho-sum (theta a) (theta b) (theta_wide a wa) (theta_wide b wb))

-- antt computes where theta, rho and pi bring the ones
linear-masks : linear (masks marks) ≡ masks marks_before_chi
unfolding masks mask
linear-masks = refl

linear_wide : (a : State) → Wide a → Wide (linear a)
linear_wide a w = pi_wide (rho (theta a)) (rho_wide (theta a) (theta_wide a w))

linear-complemented : (a : State) → Wide a → linear (complemented a) ≡ complemented_by marks_before_chi (linear a)
unfolding complemented
linear-complemented a w =
    ap linear (complemented-sum marks a w) ∙ linear-sum a (masks marks) w (masks_wide marks)
    ∙ ap (sum (linear a)) linear-masks
    ∙ sym (complemented-sum marks_before_chi (linear a) (linear_wide a w))

-- ---- a round, and the rounds

pub round_steps : (ir : ℕ) (a : State) → Wide a → iota ir (complemented_chi (pi (rho (theta a)))) ≡ complemented_round ir a
unfolding complemented_round complemented round
round_steps ir a w = ap (λ (s : State). complemented_by marks (iota ir (chi s))) (sym (linear-complemented a w))

-- complementing undoes itself, on the lanes
complemented_twice : (a : State) → Wide a → complemented (complemented a) ≡ state (lane a)
unfolding complemented
complemented_twice a w =
    state-same _ _
    (λ x y hx hy.
    ap (complement_if (lane marks x y)) (lane-state (λ x y. complement_if (lane marks x y) (lane a x y)) x y hx hy)
    ∙ if_twice (lane marks x y) (lane a x y) (w x y hx hy))
  where
    if_twice : (k v : ℕ) → v < 2 ^ 64 → complement_if k (complement_if k v) ≡ v
    if_twice zero v h = refl
    if_twice (suc k) v h = not-not v h

-- n rounds on complemented lanes, from round k on
abbrev pub rounds_from : ℕ → ℕ → State → State
rounds_from k zero a = a
rounds_from k (suc n) a = complemented_round (k + n) (rounds_from k n a)

rounds-complemented : (n : ℕ) → n ≤ 24 → (a : State) → Wide a → rounds_from 0 n (complemented a) ≡ complemented (rounds n a)
unfolding complemented_round rounds round
rounds-complemented zero h a w = refl
rounds-complemented (suc n) h a w =
    ap₂ complemented_round (zero-add n) (rounds-complemented n (omega arith) a w)
    ∙ ap (λ (s : State). complemented (round n s)) (complemented_twice (rounds n a) (rounds_wide n (omega arith) a w))

pub all-rounds : (a : State) → Wide a → complemented (rounds_from 0 24 (complemented a)) ≡ keccak_f a
unfolding keccak_f rounds round
all-rounds a w =
    ap complemented (rounds-complemented 24 (omega arith) a w) ∙ complemented_twice (rounds 24 a) (rounds_wide 24 (omega arith) a w)

-- a turn of the loop
pub two_more : (i : ℕ) (a : State) {s t : State} → s ≡ rounds_from 0 (2 * i) a → t ≡ complemented_round (2 * i + 1) (complemented_round (2 * i) s)
    → t ≡ rounds_from 0 (2 * (i + 1)) a
two_more i a before step =
    let n : 2 * (i + 1) ≡ suc (suc (2 * i)) = omega arith in
    step
    ∙ ap (λ (s : State). complemented_round (2 * i + 1) (complemented_round (2 * i) s)) before
    ∙ rw (n, zero-add (2 * i), zero-add (suc (2 * i)), add-one (2 * i))

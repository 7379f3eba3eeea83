-- The definitions on lanes are those of FIPS 202 on bits.
use mathlib.Core.Path.{◌≡◌, refl, ◌∙◌}
use Prim.Native.Nat.{ℕ, zero, suc, ◌+◌, ◌*◌, ◌-◌, ◌%◌, ◌^◌, ◌<◌, ◌≤◌}
use native.Mathlib.Nat.{mod-lt}
use native.Mathlib.Omega.{arith}
use lib.Bits.{bit_xor, bit_and}
use lib.Dec.{eqb-suc-zero}
use Rattle.lists.specs.Bits.{bit}
use Rattle.lists.proofs.Bits.{bit-xor, bit-and, bit_not}
use Rattle.keccak_steps.specs.Constants.{offset, round_constant}
use Rattle.keccak_steps.specs.Steps.{State, lane, state, rotate, complement, parity, effect, theta, rho, pi, chi, iota}
use Rattle.keccak_steps.proofs.States.{Wide, lane-state}
use Rattle.keccak_steps.proofs.Words.{rotate-bit}
use Rattle.keccak.specs.Keccak.{round, rounds, keccak_f}
use Rattle.keccak.proofs.Wide.{parity-lt, theta_wide, rho_wide, pi_wide, chi_lane, rounds_wide}
use Rattle.fips202.specs.Keccak.{Array, bits, ◌⊕◌, parity_bit, theta_bits, rho_bits, pi_bits, chi_bits, iota_bits, round_bits, rounds_bits}

-- two state arrays are the same
abbrev pub Same : Array → Array → Type 0
Same A B = (x y z : ℕ) → x < 5 → y < 5 → z < 64 → A x y z ≡ B x y z

-- ---- lanes

complement-bit : (z v : ℕ) → v < 2 ^ 64 → z < 64 → bit z (complement v) ≡ bit z v ⊕ 1
complement-bit z v h g = bit_not 64 z v h g ∙ omega arith

module _ (a : State) (w : Wide a) where
  -- ---- theta

  parity_bit_lem : (x z : ℕ) → bit z (parity a x) ≡ parity_bit (bits a) x z
  parity_bit_lem x z = rw (bit-xor z, bit-xor z, bit-xor z, bit-xor z)

  theta_bits_lem : Same (bits (theta a)) (theta_bits (bits a))
  unfolding theta_bits
  theta_bits_lem x y z hx hy hz =
      let turned : bit z (rotate 1 (parity a ((x + 1) % 5))) ≡ parity_bit (bits a) ((x + 1) % 5) ((z + 63) % 64) =
      rotate-bit 1 z (parity a ((x + 1) % 5)) (parity-lt a w ((x + 1) % 5) (omega arith)) (omega arith) hz ∙ parity_bit_lem ((x + 1) % 5) ((z + 63) % 64) in
      rw (lane-state (λ x y. bit_xor (lane a x y) (effect a x)) x y hx hy, bit-xor z (lane a x y) (effect a x), bit-xor z (parity a ((x + 4) % 5)) (rotate 1 (parity a ((x + 1) % 5))), parity_bit_lem ((x + 4) % 5) z, turned)

  -- ---- rho

  rho_bits_lem : Same (bits (rho a)) (rho_bits (bits a))
  unfolding rho_bits
  rho_bits_lem x y z hx hy hz =
      rw (lane-state (λ x y. rotate (offset x y % 64) (lane a x y)) x y hx hy)
      (rotate-bit (offset x y % 64) z (lane a x y) (w x y hx hy) (mod-lt (offset x y) (omega arith)) hz)

  -- ---- pi

  pi_bits_lem : Same (bits (pi a)) (pi_bits (bits a))
  unfolding pi_bits
  pi_bits_lem x y z hx hy hz = rw (lane-state (λ x y. lane a ((x + 3 * y) % 5) x) x y hx hy)

  -- ---- chi

  chi_bits_lem : Same (bits (chi a)) (chi_bits (bits a))
  unfolding chi_bits chi_lane
  chi_bits_lem x y z hx hy hz =
      rw (lane-state (chi_lane a) x y hx hy, bit-xor z (lane a x y) (bit_and (complement (lane a ((x + 1) % 5) y)) (lane a ((x + 2) % 5) y)), bit-and z (complement (lane a ((x + 1) % 5) y)) (lane a ((x + 2) % 5) y), complement-bit z (lane a ((x + 1) % 5) y) (w ((x + 1) % 5) y (omega arith) hy) hz)

-- ---- iota, on a state that is given by its lanes

module _ (ir : ℕ) (f : ℕ → ℕ → ℕ) where
  iota_bits_lem : Same (bits (iota ir (state f))) (iota_bits ir (bits (state f)))
  unfolding iota_bits
  iota_bits_lem zero zero z hx hy hz = bit-xor z (f 0 0) (round_constant ir)
  iota_bits_lem (suc x) zero z hx hy hz = rw (eqb-suc-zero x)
  iota_bits_lem zero (suc y) z hx hy hz = rw (eqb-suc-zero y)
  iota_bits_lem (suc x) (suc y) z hx hy hz = rw (eqb-suc-zero x)

-- ---- equal arrays stay equal

module _ (A B : Array) (e : Same A B) where
  parity-same : (x z : ℕ) → x < 5 → z < 64 → parity_bit A x z ≡ parity_bit B x z
  parity-same x z hx hz =
      let at : (y : ℕ) → y < 5 → A x y z ≡ B x y z = λ y hy. e x y z hx hy hz in
      cc (at 0 (omega arith), at 1 (omega arith), at 2 (omega arith), at 3 (omega arith), at 4 (omega arith))

  theta-same : Same (theta_bits A) (theta_bits B)
  unfolding theta_bits
  theta-same x y z hx hy hz =
      cc (e x y z hx hy hz, parity-same ((x + 4) % 5) z (omega arith) hz, parity-same ((x + 1) % 5) ((z + 63) % 64) (omega arith) (omega arith))

  rho-same : Same (rho_bits A) (rho_bits B)
  unfolding rho_bits
  rho-same x y z hx hy hz = e x y _ hx hy (mod-lt (z + (64 - offset x y % 64)) (omega arith))

  pi-same : Same (pi_bits A) (pi_bits B)
  unfolding pi_bits
  pi-same x y z hx hy hz = e ((x + 3 * y) % 5) x z (omega arith) hx hz

  chi-same : Same (chi_bits A) (chi_bits B)
  unfolding chi_bits
  chi-same x y z hx hy hz = cc (e x y z hx hy hz, e ((x + 1) % 5) y z (omega arith) hy hz, e ((x + 2) % 5) y z (omega arith) hy hz)

  iota-same : (ir : ℕ) → Same (iota_bits ir A) (iota_bits ir B)
  unfolding iota_bits
  iota-same ir x y z hx hy hz = rw (e x y z hx hy hz)

round_same : (A B : Array) → Same A B → (ir : ℕ) → Same (round_bits ir A) (round_bits ir B)
unfolding round_bits
round_same A B e ir = iota-same _ _ (chi-same _ _ (pi-same _ _ (rho-same _ _ (theta-same A B e)))) ir

-- ---- the rounds

pub then : {A B C : Array} → Same A B → Same B C → Same A C
then e f x y z hx hy hz = e x y z hx hy hz ∙ f x y z hx hy hz

round_bits_lem : (a : State) → Wide a → (ir : ℕ) → Same (bits (round ir a)) (round_bits ir (bits a))
unfolding round round_bits chi_lane
round_bits_lem a w ir =
    let t : State = theta a in
    let r : State = rho t in
    let p : State = pi r in
    let wt : Wide t = theta_wide a w in
    let wr : Wide r = rho_wide t wt in
    let at-rho = then (rho_bits_lem t wt) (rho-same _ _ (theta_bits_lem a w)) in
    let at-pi = then (pi_bits_lem r wr) (pi-same _ _ at-rho) in
    let at-chi = then (chi_bits_lem p (pi_wide r wr)) (chi-same _ _ at-pi) in
    then (iota_bits_lem ir (chi_lane p)) (iota-same _ _ at-chi ir)

pub rounds-same : (n : ℕ) (A B : Array) → Same A B → Same (rounds_bits n A) (rounds_bits n B)
unfolding rounds_bits
rounds-same zero A B e = e
rounds-same (suc n) A B e = round_same _ _ (rounds-same n A B e) n

rounds_bits_lem : (n : ℕ) → n ≤ 24 → (a : State) → Wide a → Same (bits (rounds n a)) (rounds_bits n (bits a))
unfolding rounds rounds_bits
rounds_bits_lem zero h a w = λ x y z hx hy hz. refl
rounds_bits_lem (suc n) h a w =
    let wide : Wide (rounds n a) = rounds_wide n (omega arith) a w in
    then (round_bits_lem (rounds n a) wide n) (round_same _ _ (rounds_bits_lem n (omega arith) a w) n)

-- Keccak-p[1600, 24] on lanes is that on bits
pub keccak_bits_lem : (a : State) → Wide a → Same (bits (keccak_f a)) (rounds_bits 24 (bits a))
unfolding keccak_f
keccak_bits_lem a w = rounds_bits_lem 24 (omega arith) a w

-- Complements of words of 64 bits.
use mathlib.Core.Path.{◌≡◌, sym, ap, ◌∙◌}
use Prim.Native.Nat.{ℕ, ◌-◌, ◌^◌, ◌<◌}
use native.Mathlib.Nat.{mod-eq_of_lt}
use native.Mathlib.Omega.{arith}
use lib.Bits.{bit_xor, bit_and, bit_or, xor_lt, xor_comm, xor_add_and, and_mask, or_add_and}
use lib.Pow.{ones_sub-lt}
use Rattle.lists.proofs.Xor.{xor_assoc}
use Rattle.keccak_steps.specs.Steps.{complement}

-- a complement is a sum with all ones
pub xor_ones : (v : ℕ) → v < 2 ^ 64 → bit_xor v (2 ^ 64 - 1) ≡ complement v
xor_ones v h =
    let masked : bit_and v (2 ^ 64 - 1) ≡ v = and_mask v 64 ∙ mod-eq_of_lt h in
    omega (arith, xor_add_and v (2 ^ 64 - 1), masked, h)

pub not-lt : (v : ℕ) → complement v < 2 ^ 64
not-lt v = ones_sub-lt 64 v

pub not-not : (v : ℕ) → v < 2 ^ 64 → complement (complement v) ≡ v
not-not v h = omega arith

pub xor-not : (u v : ℕ) → u < 2 ^ 64 → v < 2 ^ 64 → bit_xor u (complement v) ≡ complement (bit_xor u v)
xor-not u v hu hv =
    ap (bit_xor u) (sym (xor_ones v hv)) ∙ sym (xor_assoc u v (2 ^ 64 - 1)) ∙ xor_ones (bit_xor u v) (xor_lt 64 u v hu hv)

pub not_xor : (u v : ℕ) → u < 2 ^ 64 → v < 2 ^ 64 → bit_xor (complement u) v ≡ complement (bit_xor u v)
not_xor u v hu hv = xor_comm (complement u) v ∙ xor-not v u hv hu ∙ ap complement (xor_comm v u)

pub not_xor-not : (u v : ℕ) → u < 2 ^ 64 → v < 2 ^ 64 → bit_xor (complement u) (complement v) ≡ bit_xor u v
not_xor-not u v hu hv = xor-not (complement u) v (not-lt u) hv ∙ ap complement (not_xor u v hu hv) ∙ not-not (bit_xor u v) (xor_lt 64 u v hu hv)

-- De Morgan, by the sums that and, or and exclusive or make up
pub not-or : (u v : ℕ) → u < 2 ^ 64 → v < 2 ^ 64 → bit_and (complement u) (complement v) ≡ complement (bit_or u v)
not-or u v hu hv =
    omega (arith, xor_add_and (complement u) (complement v), not_xor-not u v hu hv, xor_add_and u v, or_add_and u v, hu, hv)

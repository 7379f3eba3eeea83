-- The coefficients that four bits give.
use mathlib.Core.Path.{◌≡◌, refl, ap}
use mathlib.Core.List.{List}
use Prim.Native.Nat.{ℕ, ◌*◌, ◌<◌, ◌≤◌}
use native.Mathlib.Nat.{le_trans}
use native.Mathlib.Omega.{arith}
use lib.Dec.{leb, leb→le}
use lib.IntN.{pos, nat_abs}
use lib.ListN.{get_or, take}
use Rattle.lists.proofs.Finite.{at_each}
use Rattle.lists.proofs.Tables.{get_or-table, table_same}
use Rattle.algebra.proofs.Numbers.{element-table}
use Rattle.ring.specs.Ring.{q, n}
use Rattle.ring.specs.Centred.{residue, Ternary}
use Rattle.ring.proofs.Centring.{residue-below, centred-residue}
use Rattle.encoding.proofs.Digits.{digit-take}
use Rattle.sampling.specs.Noise.{folded, four_bits, noise_coefficient, nibble_at, noise_by, ternary_noise}

-- ---- the rule of four bits: these two laws are all that is used of it

pub four_bits-small : (t : ℕ) → t < 16 → nat_abs (four_bits t) ≤ 1
unfolding four_bits folded
four_bits-small t h = leb→le (nat_abs (four_bits t)) 1 (at_each 16 (λ k. leb (nat_abs (four_bits k)) 1) tt t h)

pub four_bits_none : four_bits 0 ≡ pos 0
unfolding four_bits folded
four_bits_none = refl

-- ---- n coefficients, by any rule

module _ (rule : ℕ → ℕ) (n : ℕ) where
  pub noise_by_entry : (bytes : List ℕ) (k : ℕ) → k < n → get_or (noise_by rule n bytes) k 0 ≡ rule (nibble_at bytes k)
  unfolding noise_by
  noise_by_entry bytes k h = get_or-table n _ k 0 h

  -- two coefficients a byte are read, and no more
  pub noise_by-take : (m : ℕ) → n ≤ 2 * m → (bytes : List ℕ) → noise_by rule n (take m bytes) ≡ noise_by rule n bytes
  unfolding noise_by
  noise_by-take m fits bytes = table_same n _ _ (λ k h. ap rule (digit-take 16 2 bytes m k (omega arith)))

-- ---- the ring's ternary polynomials

-- any bytes give one
pub ternary_noise-ternary : (bytes : List ℕ) → Ternary (ternary_noise bytes)
unfolding noise_by noise_coefficient
ternary_noise-ternary bytes = (
  element-table q n _ (λ k. residue-below (four_bits (nibble_at bytes k))),
  λ i h.
      let small : nat_abs (four_bits (nibble_at bytes i)) ≤ 1 = four_bits-small (nibble_at bytes i) (omega arith) in
      rw (get_or-table n (λ k. residue (four_bits (nibble_at bytes k))) i 0 h, centred-residue (four_bits (nibble_at bytes i)) (le_trans small (omega arith))) small,
)

-- the first 512 bytes are read, and no more
pub ternary_noise-take : (bytes : List ℕ) → ternary_noise (take 512 bytes) ≡ ternary_noise bytes
ternary_noise-take bytes = noise_by-take noise_coefficient n 512 (omega arith) bytes

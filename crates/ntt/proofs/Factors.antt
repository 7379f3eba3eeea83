-- The factors of crate twiddles are those of the transform.
use mathlib.Core.Path.{◌≡◌, sym, ap, ◌∙◌}
use mathlib.Core.List.{List}
use Prim.Native.Nat.{ℕ, zero, suc, ◌+◌, ◌*◌, ◌/◌, ◌%◌, ◌^◌, ◌<◌, ◌≤◌}
use native.Mathlib.Nat.{mod-lt, two-pow-succ, pow-le-pow_right}
use native.Mathlib.Omega.{arith}
use lib.ListN.{length, get_or}
use lib.Pow.{pow_pos}
use Rattle.lists.proofs.Tables.{table_same}
use Rattle.algebra.specs.Halving.{reversed}
use Rattle.algebra.specs.Numbers.{scale}
use Rattle.modq.specs.Montgomery.{montgomery_form, from_montgomery}
use Rattle.modq.proofs.Montgomery.{product_of_form}
use Rattle.twiddles.proofs.Reversal.{reversed-one, reversed_step}
use Rattle.twiddles.proofs.Factors.{length-forward_factors, length-backward_factors}
pub use Rattle.twiddles.proofs.Factors.{shifted}
use Rattle.ntt.specs.Spectrum.{q, degree, ψ, power}
use Rattle.ntt.specs.Factors.{forward_factor, backward_factor, forward_factors, backward_factors}
use Rattle.ntt.proofs.Join.{block_exponent, ForwardFactors, BackwardFactors}

-- the size of a table that was made
pub forward-size : {w : List ℕ} → w ≡ forward_factors → 5120 ≡ length w
forward-size e = sym (ap length e ∙ length-forward_factors)

pub backward-size : {w : List ℕ} → w ≡ backward_factors → 5120 ≡ length w
backward-size e = sym (ap length e ∙ length-backward_factors)

-- a multiple, by the form of its number
pub scale_of_form : (c : ℕ) (a : List ℕ) → scale q degree (from_montgomery (montgomery_form c)) a ≡ scale q degree c a
unfolding scale
scale_of_form c a = table_same degree _ _ (λ k h. product_of_form c (get_or a k 0))

-- The tree starts from X^1024 - ψ^1024, and the factor of a block modulo X^.. - ψ^c is ψ^(c / 2).
exponent_of-block : (k b : ℕ) → k ≤ 9 → b < 2 ^ k → block_exponent 1024 1024 k b ≡ 2 * reversed 10 (2 ^ k + b)
exponent_of-block zero b h l = let z : 2 ^ 0 + b ≡ 1 = omega arith in rw (z, reversed-one)
exponent_of-block (suc k) b h l =
    let double : 2 ^ suc k ≡ 2 ^ k + 2 ^ k = two-pow-succ k in
    let m = 2 ^ suc k + b in
    let large : 2 ^ suc k ≤ 2 ^ 9 = pow-le-pow_right {n = 2} (omega arith) {i = suc k} {j = 9} (omega arith) in
    let parent : m / 2 ≡ 2 ^ k + b / 2 = omega arith in
    let bit : m % 2 ≡ b % 2 = omega arith in
    let step : 2 * reversed 10 m ≡ reversed 10 (2 ^ k + b / 2) + 1024 * (b % 2) =
    reversed_step m (omega arith) ∙ rw (parent, bit) in
    omega (arith, exponent_of-block k (b / 2) (omega arith) (omega arith), step)

pub forward_factors_are : ForwardFactors q ψ 1024 1024 1 9 (λ c l. l) forward_factor
forward_factors_are k j h l = ap power (omega (arith, exponent_of-block k (j % 2 ^ k) h (mod-lt j (pow_pos k))))

pub backward_factors_are : BackwardFactors q ψ 1024 1024 1 9 (λ c l. l) backward_factor
backward_factors_are k j h l = ap power (omega (arith, exponent_of-block k (j % 2 ^ k) h (mod-lt j (pow_pos k))))

-- No entry passes the largest size, one reaches it; and the largest size by a fold.
use mathlib.Core.Path.{◌≡◌}
use mathlib.Core.List.{List, [], ◌∷◌}
use Prim.Native.Nat.{ℕ, zero, suc, ◌<◌, ◌≤◌, max}
use native.Mathlib.Decide.{dec_le}
use native.Mathlib.Omega.{arith}
use lib.IntN.{ℤ, pos, nat_abs}
use lib.ListN.{length, get_or}
use Rattle.std.specs.List.{fold}
use Rattle.margins.specs.Largest.{largest_size}

-- ---- the largest size

pub none_passes : (xs : List ℤ) (i : ℕ) → i < length xs → nat_abs (get_or xs i (pos 0)) ≤ largest_size xs
unfolding largest_size
none_passes [] i h = absurd (omega arith)
none_passes (x ∷ xs) zero h = omega arith
none_passes (x ∷ xs) (suc i) h = omega (arith, none_passes xs i (omega arith))

pub one-reaches : (xs : List ℤ) → 0 < length xs → (i : ℕ) × (i < length xs) × (nat_abs (get_or xs i (pos 0)) ≡ largest_size xs)
unfolding largest_size
one-reaches [] h = absurd (omega arith)
one-reaches (x ∷ []) h = (0, omega arith, omega arith)
one-reaches (x ∷ (y ∷ xs)) h = by (dec_le (largest_size (y ∷ xs)) (nat_abs x)) (one-reaches (y ∷ xs) (omega arith))
  where
    by : Dec (largest_size (y ∷ xs) ≤ nat_abs x)
        → (i : ℕ) × (i < length (y ∷ xs)) × (nat_abs (get_or (y ∷ xs) i (pos 0)) ≡ largest_size (y ∷ xs))
        → (i : ℕ) × (i < length (x ∷ (y ∷ xs))) × (nat_abs (get_or (x ∷ (y ∷ xs)) i (pos 0)) ≡ largest_size (x ∷ (y ∷ xs)))
    by (yes l) (i, below, e) = (0, omega arith, omega arith)
    by (no l) (i, below, e) = (suc i, omega arith, omega arith)

-- a bound on every entry is one on the largest
pub largest-most : (k : ℕ) (xs : List ℤ) → ((i : ℕ) → i < length xs → nat_abs (get_or xs i (pos 0)) ≤ k) → largest_size xs ≤ k
unfolding largest_size
largest-most k [] h = omega arith
largest-most k (x ∷ xs) h = omega (arith, h 0 (omega arith), largest-most k xs (λ i l. h (suc i) (omega arith)))

-- ---- a fold over all entries

largest-from : (a : ℕ) (xs : List ℤ) → fold (λ (b : ℕ) (x : ℤ). max b (nat_abs x)) a xs ≡ max a (largest_size xs)
unfolding largest_size
largest-from a [] = omega arith
largest-from a (x ∷ xs) = omega (arith, largest-from (max a (nat_abs x)) xs)

pub largest_fold : (xs : List ℤ) → fold (λ (b : ℕ) (x : ℤ). max b (nat_abs x)) 0 xs ≡ largest_size xs
largest_fold xs = omega (arith, largest-from 0 xs)

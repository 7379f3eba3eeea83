-- A claim about every number below a bound, by one test that is computed over all of them.
use mathlib.Core.Path.{◌≡◌, subst}
use mathlib.Core.Bool.{Bool, true, ◌&&◌}
use Prim.Native.Nat.{ℕ, zero, suc, ◌<◌}
use native.Mathlib.Decide.{dec_lt}
use native.Mathlib.Omega.{arith}
use lib.Dec.{T}
use Rattle.lists.proofs.Both.{both_computed}

-- f 0, .., f (n - 1) are all true
abbrev pub all_below : ℕ → (ℕ → Bool) → Bool
all_below zero f = true
all_below (suc n) f = f n && all_below n f

-- `at_each 16 test tt k h`: the test is computed once, at all of 0 to 15
pub at_each : (n : ℕ) (f : ℕ → Bool) → T (all_below n f) → (k : ℕ) → k < n → T (f k)
at_each zero f t k h = absurd (omega arith)
at_each (suc n) f t k h =
    let (last, rest) = both_computed (f n) (all_below n f) t in
    pick last (at_each n f rest k) (dec_lt k n)
  where
    pick : T (f n) → (k < n → T (f k)) → Dec (k < n) → T (f k)
    pick last rest (yes l) = rest l
    pick last rest (no l) = let e : n ≡ k = omega arith in subst (λ (m : ℕ). T (f m)) e last

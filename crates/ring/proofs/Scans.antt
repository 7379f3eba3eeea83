-- Tests of every entry, and what their answers say.
use mathlib.Core.Path.{◌≡◌, sym, ◌∙◌}
use mathlib.Core.Bool.{true}
use mathlib.Core.Logic.{◌↔◌}
use mathlib.Core.List.{List}
use Prim.Native.Nat.{ℕ, ◌-◌, ◌%◌, ◌<◌, ◌≤◌, min}
use native.Mathlib.Nat.{le_of_eq}
use native.Mathlib.Decide.{dec_le}
use native.Mathlib.Omega.{arith}
use lib.Dec.{leb}
use lib.ListN.{length}
use borrow.Author.Tests.{le-leb, lt-leb, leb-true, eq-eqb, eqb-true}
use Rattle.lists.proofs.Scan.{first-none, first_passes}
use Rattle.ring.specs.Ring.{q, n}
use Rattle.ring.specs.Centred.{is_near, Within, is_within}
use Rattle.ring.proofs.Centring.{centred-size}

-- ---- one word

pub near_low : (k c : ℕ) → c % q ≤ k → true ≡ is_near k c
unfolding is_near
near_low k c h = sym (rw (centred-size c) (le-leb _ k (omega arith)))

pub near_high : (k c : ℕ) → k < c % q → leb (q - c % q) k ≡ is_near k c
unfolding is_near
near_high k c h = rw (centred-size c) (by (dec_le (q - c % q) k))
  where
    by : Dec (q - c % q ≤ k) → leb (q - c % q) k ≡ leb (min (c % q) (q - c % q)) k
    by (yes l) = le-leb _ k l ∙ sym (le-leb _ k (omega arith))
    by (no l) = lt-leb _ k (omega arith) ∙ sym (lt-leb _ k (omega arith))

-- ---- every word is near

-- the test is what it says
pub within_iff : (k : ℕ) (a : List ℕ) → length a ≡ n → (is_within k a ≡ true) ↔ Within k a
unfolding is_within is_near
within_iff k a size = (
  (λ e i h. leb-true _ k (first_passes (is_near k) a (le_of_eq (sym (eqb-true _ _ e))) i (omega arith))),
  (λ w. eq-eqb _ _ (first-none (is_near k) a (λ i h. le-leb _ k (w i (omega arith))))),
)

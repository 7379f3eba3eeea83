-- Whether some entry is zero, and what the answer says.
use mathlib.Core.Path.{◌≡◌, ap}
use mathlib.Core.Bool.{true, false, not}
use mathlib.Core.Logic.{◌≢◌}
use mathlib.Core.List.{List}
use Prim.Native.Nat.{ℕ, ◌%◌, ◌<◌}
use lib.ListN.{length, get_or}
use borrow.Author.Tests.{ltb-true, ltb-false, eq-eqb, ne_eqb, eqb-true, eqb-false, not-true, not-false}
use Rattle.lists.specs.First.{first_failing}
use Rattle.lists.proofs.Scan.{first_passes, first-fails}
use Rattle.ntt.specs.Spectrum.{q}
use Rattle.reciprocals.specs.Reciprocals.{is_nonzero, has_zero}

pub nonzero-true : (x : ℕ) → x % q ≢ 0 → is_nonzero x ≡ true
nonzero-true x h = ap not (ne_eqb (x % q) 0 h)

pub nonzero-false : (x : ℕ) → x % q ≡ 0 → is_nonzero x ≡ false
nonzero-false x h = ap not (eq-eqb (x % q) 0 h)

pub true-nonzero : (x : ℕ) → is_nonzero x ≡ true → x % q ≢ 0
true-nonzero x h = eqb-false (x % q) 0 (not-true _ h)

-- what its answer says
pub no_zero : (t : List ℕ) → has_zero t ≡ false → (i : ℕ) → i < length t → get_or t i 0 % q ≢ 0
unfolding has_zero
no_zero t e i h = true-nonzero _ (first_passes is_nonzero t (ltb-false _ _ e) i h)

pub some-zero : (t : List ℕ) → has_zero t ≡ true → (i : ℕ) × (i < length t) × (get_or t i 0 % q ≡ 0)
unfolding has_zero
some-zero t e =
    let h : first_failing is_nonzero t < length t = ltb-true _ _ e in
    (first_failing is_nonzero t, h, eqb-true _ 0 (not-false _ (first-fails is_nonzero t h)))

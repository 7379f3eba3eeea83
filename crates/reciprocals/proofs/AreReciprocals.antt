-- Whether two lists are reciprocal to each other, entry by entry, and what the answer says.
use mathlib.Core.Path.{◌≡◌, refl, sym, ap, ◌∙◌}
use mathlib.Core.Bool.{Bool, true, false, false≢true, ◌&&◌}
use mathlib.Core.Logic.{◌↔◌, ◌≢◌}
use mathlib.Core.List.{List}
use Prim.Native.Nat.{ℕ, ◌+◌, ◌<◌, ◌≤◌}
use native.Mathlib.Nat.{le_of_eq}
use native.Mathlib.Omega.{arith}
use lib.Dec.{eqb}
use lib.ListN.{length, get_or}
use borrow.Author.Tests.{eq-eqb, ne_eqb, eqb-true}
use Rattle.lists.specs.First.{first_failing}
use Rattle.lists.proofs.Scan.{Scanned, scanned_none, scanned_pass, scanned_fail, scanned_all, first-none, first_passes}
use Rattle.algebra.specs.Numbers.{mul_mod}
use Rattle.ntt.specs.Spectrum.{q, degree, pointwise}
use Rattle.ntt.proofs.Spectrum.{length-pointwise, pointwise-at}
use Rattle.reciprocals.specs.Reciprocals.{are_reciprocals}

abbrev is_one : ℕ → Bool
is_one p = eqb p 1

-- the invariant of the loop: whether the first i products are 1
and_true : (t : Bool) → t && true ≡ t
and_true true = refl
and_true false = refl

and_false : (t : Bool) → t && false ≡ false
and_false true = refl
and_false false = refl

abbrev pub Multiplied : (x y : List ℕ) (all : Bool) (i : ℕ) → Type 0
Multiplied x y all i = Scanned is_one (pointwise x y) all i

module _ (x y : List ℕ) where
  size : length (pointwise x y) ≡ degree
  size = length-pointwise x y

  pub multiplied_none : Multiplied x y true 0
  multiplied_none = scanned_none is_one (pointwise x y)

  module _ {all : Bool} {i : ℕ} (m : Multiplied x y all i) where
    pub multiplied_pass : i < degree → mul_mod q (get_or x i 0) (get_or y i 0) ≡ 1 → Multiplied x y all (i + 1)
    multiplied_pass h e = scanned_pass m (omega (arith, size)) (eq-eqb _ 1 (pointwise-at x y i h ∙ e))

    pub multiplied_fail : i < degree → mul_mod q (get_or x i 0) (get_or y i 0) ≢ 1 → Multiplied x y false (i + 1)
    multiplied_fail h f = scanned_fail m (omega (arith, size)) (ne_eqb _ 1 (λ e. f (sym (pointwise-at x y i h) ∙ e)))

    -- one entry more, whatever its product is
    pub multiplied_next : i < degree → (v : ℕ) → v ≡ mul_mod q (get_or x i 0) (get_or y i 0) → Multiplied x y (all && eqb v 1) (i + 1)
    multiplied_next h v e = by (eqb v 1) refl
      where
        by : (t : Bool) → eqb v 1 ≡ t → Multiplied x y (all && eqb v 1) (i + 1)
        by true f = rw (f, and_true all) (multiplied_pass h (sym e ∙ eqb-true v 1 f))
        by false f = rw (f, and_false all) (multiplied_fail h (λ z. false≢true (sym f ∙ eq-eqb v 1 (e ∙ z))))

    pub multiplied_all : degree ≤ i → all ≡ are_reciprocals x y
    unfolding are_reciprocals
    multiplied_all h = scanned_all m (omega (arith, size)) ∙ ap (eqb (first_failing is_one (pointwise x y))) size

  -- what its answer says
  pub are-reciprocals_iff : (are_reciprocals x y ≡ true) ↔ ((k : ℕ) → k < degree → mul_mod q (get_or x k 0) (get_or y k 0) ≡ 1)
  unfolding are_reciprocals
  are-reciprocals_iff = (
    (λ e k h. sym (pointwise-at x y k h) ∙ eqb-true _ 1 (first_passes is_one (pointwise x y) (le_of_eq (size ∙ sym (eqb-true _ _ e))) k (omega (arith, size)))),
    (λ f. eq-eqb _ _ (first-none is_one (pointwise x y) (λ k h. let l : k < degree = omega (arith, size) in eq-eqb _ 1 (pointwise-at x y k l ∙ f k l)) ∙ size)),
  )

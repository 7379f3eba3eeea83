-- Whether two elements are inverse to each other, by their spectra.
use mathlib.Core.Path.{◌≡◌, refl, sym, ap, ◌∙◌}
use mathlib.Core.Bool.{Bool, true, false, cond, false≢true, decide, decide_iff}
use mathlib.Core.List.{List}
use mathlib.Core.Logic.Iff
use mathlib.Core.Logic.{◌↔◌}
use Prim.Native.Nat.{ℕ, suc, ◌<◌}
use Rattle.std.specs.Prelude.{Some, None, is_some, unwrap_or}
use native.Mathlib.Nat.{mod-lt, mul-zero}
use lib.ListN.{length, get_or, set}
use Rattle.lists.specs.Table.{table, zeros}
use Rattle.lists.proofs.Tables.{get_or-table, table_same}
use Rattle.algebra.specs.Numbers as N
use Rattle.algebra.specs.Numbers.{mul_mod}
use Rattle.algebra.proofs.Numbers.{element-table}
use Rattle.modq.proofs.Prime.{q-positive}
use Rattle.ntt.specs.Spectrum.{spectrum_of, coefficients_of, pointwise}
use Rattle.ntt.proofs.Spectrum.{pointwise-at}
use Rattle.reciprocals.specs.Reciprocals.{are_reciprocals}
use Rattle.reciprocals.proofs.AreReciprocals.{are-reciprocals_iff}
use Rattle.ring.specs.Ring.{q, n, Element, Invertible, one, product}
use Rattle.ring.specs.Invertible.{is_invertible, witness, inverse_of, is_inverse}
use Rattle.ring.proofs.RingLaws.{constant-element, one_is}
use Rattle.ring.proofs.Transforms.{value_of-zeros, product_by-spectra, left_through, right_through}
use Rattle.ring.proofs.Spectra.{coefficients_through, spectrum_through}

-- a test that says P is the decision of P
decided_by : {P : Type 0} (t : Bool) (d : Dec P) → (t ≡ true) ↔ P → t ≡ decide d
unfolding decide
decided_by true (yes p) iff = refl
decided_by true (no f) iff = absurd (f (iff.0 refl))
decided_by false (yes p) iff = absurd (false≢true (iff.1 p))
decided_by false (no f) iff = refl

-- ---- the values of 1 are 1

value_of-one : (x p : ℕ) → N.value_mod q x (set (zeros (suc p)) 0 1) ≡ 1
unfolding N.value_mod
value_of-one x p = rw (value_of-zeros x p, mul-zero x) refl

pub spectrum_of-one : spectrum_of one ≡ table n (λ k. 1)
unfolding spectrum_of
spectrum_of-one = ap spectrum_of (sym one_is) ∙ table_same n _ _ (λ k h. value_of-one _ 1023)

-- ---- so two elements are inverse to each other exactly when every product of two of their values is 1

module _ (x y : List ℕ) (hx : length x ≡ n) (hy : length y ≡ n) where
  values-element : Element (pointwise x y)
  unfolding pointwise
  values-element = element-table q n _ (λ k. mod-lt _ q-positive)

  values_iff : ((k : ℕ) → k < n → mul_mod q (get_or x k 0) (get_or y k 0) ≡ 1) ↔ (product (coefficients_of x) (coefficients_of y) ≡ one)
  unfolding pointwise
  values_iff = (
    (λ f. sym (product_by-spectra x y hx hy) ∙ ap coefficients_of (table_same n _ _ f ∙ sym spectrum_of-one) ∙ coefficients_through one (constant-element 1)),
    (λ e k h.
        sym (pointwise-at x y k h)
        ∙ ap (λ (l : List ℕ). get_or l k 0) (sym (spectrum_through (pointwise x y) values-element) ∙ ap spectrum_of (product_by-spectra x y hx hy ∙ e) ∙ spectrum_of-one)
        ∙ get_or-table n _ k 0 h),
  )

  pub reciprocals_decide : are_reciprocals x y ≡ decide (is_inverse (coefficients_of x) (coefficients_of y))
  reciprocals_decide = decided_by _ (is_inverse (coefficients_of x) (coefficients_of y)) (Iff.trans (are-reciprocals_iff x y) values_iff)

-- elements that went through their spectra and back are inverse to each other as they were before
pub inverse_through : (b i : List ℕ) → length b ≡ n → length i ≡ n
    → decide (is_inverse (coefficients_of (spectrum_of b)) (coefficients_of (spectrum_of i))) ≡ decide (is_inverse b i)
inverse_through b i hb hi =
    decided_by _ (is_inverse b i) (Iff.trans (decide_iff (is_inverse (coefficients_of (spectrum_of b)) (coefficients_of (spectrum_of i)))) ((λ e. sym same ∙ e), (λ e. same ∙ e)))
  where
    same : product (coefficients_of (spectrum_of b)) (coefficients_of (spectrum_of i)) ≡ product b i
    same = left_through b (coefficients_of (spectrum_of i)) hb ∙ right_through b i hi

-- ---- the inverse, if there is one

found_by : (b : List ℕ) (d : Dec (Invertible b)) → (is_some (cond (decide d) (Some (witness b d)) None) ≡ decide d)
    × (unwrap_or (cond (decide d) (Some (witness b d)) None) (zeros n) ≡ witness b d)
unfolding decide
found_by b (yes i) = (refl, refl)
found_by b (no none) = (refl, refl)

-- whether there is one, and the inverse, or 1,024 zeros
pub found : (b : List ℕ) → (is_some (cond (decide (is_invertible b)) (Some (inverse_of b)) None) ≡ decide (is_invertible b))
    × (unwrap_or (cond (decide (is_invertible b)) (Some (inverse_of b)) None) (zeros n) ≡ inverse_of b)
unfolding inverse_of
found b = found_by b (is_invertible b)

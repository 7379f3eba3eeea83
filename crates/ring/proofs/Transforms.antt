-- Products and inverses by the transform of crate ntt.
use mathlib.Core.Path.{◌≡◌, refl, sym, ap, ap₂, ◌∙◌}
use mathlib.Core.Bool.{Bool, true, false, cond, decide, not}
use mathlib.Core.List.{List}
use mathlib.Core.Logic.{◌↔◌, ◌≢◌}
use Prim.Native.Nat.{ℕ, zero, suc, ◌%◌, ◌<◌}
use Rattle.std.specs.Prelude.{Some, None}
use native.Mathlib.Nat.{mod-mod, mul-zero}
use native.Mathlib.Omega.{arith}
use lib.ListN.{length, get_or}
use Rattle.lists.specs.Table.{zeros}
use Rattle.lists.proofs.Tables.{length-table, get_or-table, table_same}
use Rattle.lists.proofs.Zeros.{zeros-table}
use Rattle.algebra.specs.Numbers as N
use Rattle.algebra.specs.Numbers.{mul_mod}
use Rattle.algebra.proofs.Residues.{mod-mul-left, mod-mul-right}
use Rattle.algebra.proofs.Numbers.{element-table}
use Rattle.algebra.proofs.Elements as E
use Rattle.algebra.proofs.Negacyclic as G
use Rattle.algebra.proofs.PlainProduct.{product_by-residues}
use Rattle.modq.specs.Modulus.{reciprocal_of}
use Rattle.modq.proofs.Prime.{q-positive, negacyclic-root}
use Rattle.modq.proofs.Reciprocals.{reciprocal-times, reciprocal-below}
use Rattle.ntt.specs.Spectrum.{spectrum_of, coefficients_of, pointwise}
use Rattle.ntt.proofs.Spectrum.{spectrum_of-reduced, length-spectrum, coefficients-element, spectrum_of-coefficients, coefficients_of-spectrum, product_by_transform}
use Rattle.reciprocals.proofs.HasZero.{no_zero, some-zero}
use Rattle.ring.specs.Ring.{q, n, Element, one, product, Invertible}
use Rattle.ring.specs.Invertible.{is_invertible, inverse_of}
use Rattle.ring.specs.Reciprocals.{has_zero, reciprocals_of}
use Rattle.ring.proofs.RingLaws.{inverse_is, inverse_none}

pub value_of-zeros : (x m : ℕ) → N.value_mod q x (zeros m) ≡ 0
unfolding N.value_mod
value_of-zeros x zero = refl
value_of-zeros x (suc m) = rw (value_of-zeros x m, mul-zero x) refl

pub spectrum_of-zeros : spectrum_of (zeros n) ≡ zeros n
unfolding spectrum_of
spectrum_of-zeros = sym (zeros-table n _ (λ k h. value_of-zeros _ n))

module _ (b : List ℕ) (size : length b ≡ n) where
  reduced : List ℕ
  reduced = N.reduced q n b

  -- words stand for their residues
  product-reduced : (i : List ℕ) → product reduced i ≡ product b i
  unfolding reduced
  product-reduced i =
      product_by-residues q q-positive 1023 _ b i i
      (λ k h. ap (λ (x : ℕ). x % q) (E.reduced-at q q-positive n b k h) ∙ mod-mod (get_or b k 0) q) (λ k h. refl)

  -- an inverse exists exactly when the spectrum has no zero
  pub invertible_iff : Invertible b ↔ ((k : ℕ) → k < n → get_or (spectrum_of b) k 0 % q ≢ 0)
  unfolding reduced
  invertible_iff =
      let iff = G.invertible_iff q-positive negacyclic-root reduced (E.reduced-element q q-positive n b).size in (
        (λ (i, h, e) k l. rw (spectrum_of-reduced b size) (iff.0 (i, h, product-reduced i ∙ e) k l)),
        (λ f. let (i, h, e) = iff.1 (λ k l. rw (spectrum_of-reduced b size) at (f k l)) in (i, h, sym (product-reduced i) ∙ e)),
      )

  decided : (d : Dec (Invertible b)) → (Invertible b → decide d ≡ true) × (¬ (Invertible b) → decide d ≡ false)
  unfolding decide
  decided (yes i) = ((λ j. refl), (λ f. absurd (f i)))
  decided (no f) = ((λ i. absurd (f i)), (λ g. refl))

  none : has_zero (spectrum_of b) ≡ true → ¬ (Invertible b)
  none z i =
      let (k, l, e) = some-zero (spectrum_of b) z in
      invertible_iff.0 i k (omega (arith, length-spectrum b size)) e

  pub no-inverse : has_zero (spectrum_of b) ≡ true → (false ≡ decide (is_invertible b)) × (zeros n ≡ inverse_of b)
  no-inverse z = (sym ((decided (is_invertible b)).1 (none z)), sym (inverse_none b (none z)))

  -- the reciprocals of the spectrum are that of the inverse
  pub some-inverse : has_zero (spectrum_of b) ≡ false
      → (true ≡ decide (is_invertible b)) × (coefficients_of (reciprocals_of (spectrum_of b)) ≡ inverse_of b)
  unfolding reciprocals_of coefficients_of reduced
  some-inverse z =
      let t : List ℕ = spectrum_of b in
      let w : List ℕ = reciprocals_of t in
      let long : length w ≡ n = length-table n _ in
      let entry : (k : ℕ) → k < n → mul_mod q (get_or t k 0) (get_or w k 0) ≡ 1 = λ k h.
      ap (mul_mod q (get_or t k 0)) (get_or-table n _ k 0 h ∙ ap (λ (z : Bool). cond z 0 (reciprocal_of (get_or t k 0))) z)
      ∙ reciprocal-times (get_or t k 0) (no_zero t z k (omega (arith, length-spectrum b size))) in
      let times : product b (coefficients_of w) ≡ one =
      sym (product-reduced (coefficients_of w))
      ∙ G.inverse_by-spectrum q-positive negacyclic-root reduced w (E.reduced-element q q-positive n b).size long
      (λ k h. ap (λ (l : List ℕ). mul_mod q (get_or l k 0) (get_or w k 0)) (sym (spectrum_of-reduced b size)) ∙ entry k h) in
      let element : Element (coefficients_of w) = coefficients-element w long in
      (sym ((decided (is_invertible b)).0 (coefficients_of w, element, times)), sym (inverse_is b (coefficients_of w) size element times))

  -- the two in one: the inverse of b, if it has one
  pub inverse_lacks : has_zero (spectrum_of b) ≡ true → None ≡ cond (decide (is_invertible b)) (Some (inverse_of b)) None
  inverse_lacks z = ap (λ (t : Bool). cond t (Some (inverse_of b)) None) (no-inverse z).0

  pub inverse_found : has_zero (spectrum_of b) ≡ false
      → Some (coefficients_of (reciprocals_of (spectrum_of b))) ≡ cond (decide (is_invertible b)) (Some (inverse_of b)) None
  inverse_found z =
      ap Some (some-inverse z).1 ∙ ap (λ (t : Bool). cond t (Some (inverse_of b)) None) (some-inverse z).0

  -- so a spectrum tells whether there is an inverse ..
  pub zero_decides : not (has_zero (spectrum_of b)) ≡ decide (is_invertible b)
  zero_decides = by (has_zero (spectrum_of b)) refl
    where
      by : (z : Bool) → has_zero (spectrum_of b) ≡ z → not (has_zero (spectrum_of b)) ≡ decide (is_invertible b)
      by true e = ap not e ∙ (no-inverse e).0
      by false e = ap not e ∙ (some-inverse e).0

  -- .. and its reciprocals are the spectrum of the inverse: zeros, where there is none
  pub inverse-spectrum : reciprocals_of (spectrum_of b) ≡ spectrum_of (inverse_of b)
  unfolding reciprocals_of
  inverse-spectrum = by (has_zero (spectrum_of b)) refl
    where
      t : List ℕ
      t = spectrum_of b

      w : List ℕ
      w = reciprocals_of t

      entry : (z : Bool) (k : ℕ) → cond z 0 (reciprocal_of (get_or t k 0)) < q
      entry true k = q-positive
      entry false k = reciprocal-below (get_or t k 0)

      element : Element w
      element = element-table q n _ (entry (has_zero t))

      by : (z : Bool) → has_zero t ≡ z → w ≡ spectrum_of (inverse_of b)
      by true e =
          sym (zeros-table n _ (λ k h. ap (λ (z : Bool). cond z 0 (reciprocal_of (get_or t k 0))) e))
          ∙ sym (spectrum_of-zeros) ∙ ap spectrum_of (no-inverse e).1
      by false e =
          sym (E.reduced-same q q-positive n w element) ∙ sym (spectrum_of-coefficients w element.size)
          ∙ ap spectrum_of (some-inverse e).1

-- the pointwise product of two spectra is the spectrum of the product
pub product_by-spectra : (x y : List ℕ) → length x ≡ n → length y ≡ n → coefficients_of (pointwise x y) ≡ product (coefficients_of x) (coefficients_of y)
unfolding pointwise
product_by-spectra x y hx hy =
    sym (ap coefficients_of (ap₂ pointwise (spectrum_of-coefficients x hx) (spectrum_of-coefficients y hy) ∙ table_same n _ _ entry))
    ∙ product_by_transform (coefficients_of x) (coefficients_of y) (coefficients-element x hx).size (coefficients-element y hy).size
  where
    entry : (k : ℕ) → k < n → mul_mod q (get_or (N.reduced q n x) k 0) (get_or (N.reduced q n y) k 0) ≡ mul_mod q (get_or x k 0) (get_or y k 0)
    entry k h =
        ap₂ (mul_mod q) (E.reduced-at q q-positive n x k h) (E.reduced-at q q-positive n y k h)
        ∙ mod-mul-left (get_or x k 0) (get_or y k 0 % q) q ∙ mod-mul-right (get_or x k 0) (get_or y k 0) q

-- an element that went through its spectrum and back is the same factor
module _ (a b : List ℕ) where
  through : (c : List ℕ) → length c ≡ n → (k : ℕ) → k < n → get_or (coefficients_of (spectrum_of c)) k 0 % q ≡ get_or c k 0 % q
  through c size k h =
      ap (λ (l : List ℕ). get_or l k 0 % q) (coefficients_of-spectrum c size) ∙ ap (λ (x : ℕ). x % q) (E.reduced-at q q-positive n c k h) ∙ mod-mod (get_or c k 0) q

  pub left_through : length a ≡ n → product (coefficients_of (spectrum_of a)) b ≡ product a b
  left_through size = product_by-residues q q-positive 1023 _ a b b (through a size) (λ k h. refl)

  pub right_through : length b ≡ n → product a (coefficients_of (spectrum_of b)) ≡ product a b
  right_through size = product_by-residues q q-positive 1023 a a _ b (λ k h. refl) (through b size)

-- Sums, differences and multiples of spectra, word by word, are the spectra of sums, differences and multiples.
use mathlib.Core.Path.{◌≡◌, sym, ap, ap₂, ◌∙◌}
use mathlib.Core.List.{List}
use Prim.Native.Nat.{ℕ, ◌-◌, ◌%◌}
use native.Mathlib.Nat.{mod-add-mod, mod-eq_of_lt, zero-add}
use native.Mathlib.Omega.{arith}
use lib.ListN.{length, get_or, length-replicate, get_or-replicate}
use Rattle.lists.specs.Table.{zeros}
use Rattle.lists.proofs.Tables.{get_or-table, table_is, table_same}
use Rattle.lists.proofs.Zeros.{zeros-table}
use Rattle.algebra.specs.Numbers as N
use Rattle.algebra.specs.Numbers.{add_mod, sub_mod, mul_mod}
use Rattle.algebra.proofs.Residues.{mod-mul-right}
use Rattle.algebra.proofs.Numbers.{below_at}
use Rattle.algebra.proofs.Elements.{scale_at, reduced-at, reduced-same}
use Rattle.algebra.proofs.Values.{value-combined}
use Rattle.modq.proofs.Prime.{q-positive}
use Rattle.ntt.specs.Spectrum.{spectrum_of, coefficients_of}
use Rattle.ntt.proofs.Spectrum.{coefficients-element, coefficients_of-spectrum, spectrum_of-coefficients}
use Rattle.ring.specs.Ring.{q, n, Element, sum, difference, multiple}
use Rattle.ring.proofs.RingLaws.{sum-element, multiple-element}
use Rattle.ring.proofs.Transforms.{spectrum_of-zeros}

-- ---- words stand for their residues

module _ (a b : List ℕ) where
  pub sum-reduced : sum (N.reduced q n a) b ≡ sum a b
  unfolding N.plus
  sum-reduced = table_same n _ _ (λ k h. ap (λ (x : ℕ). add_mod q x (get_or b k 0)) (reduced-at q q-positive n a k h) ∙ mod-add-mod (get_or a k 0) q (get_or b k 0))

  pub difference-reduced : difference a (N.reduced q n b) ≡ difference a b
  unfolding N.minus
  difference-reduced = table_same n _ _ (λ k h. ap (sub_mod q (get_or a k 0)) (reduced-at q q-positive n b k h) ∙ omega arith)

  -- a sum and a difference, as sums with a multiple
  pub sum-combined : sum a (multiple 1 b) ≡ sum a b
  unfolding N.plus
  sum-combined = table_same n _ _ (λ k h. ap (add_mod q (get_or a k 0)) (scale_at q q-positive n 1 b k h) ∙ omega arith)

  pub difference-combined : sum a (multiple (q - 1) b) ≡ difference a b
  unfolding N.plus N.minus
  difference-combined = table_same n _ _ (λ k h. ap (add_mod q (get_or a k 0)) (scale_at q q-positive n (q - 1) b k h) ∙ omega arith)

pub multiple-reduced : (c : ℕ) (b : List ℕ) → multiple c (N.reduced q n b) ≡ multiple c b
unfolding N.scale
multiple-reduced c b = table_same n _ _ (λ k h. ap (mul_mod q c) (reduced-at q q-positive n b k h) ∙ mod-mul-right c (get_or b k 0) q)

-- ---- an element that went to its spectrum and back, and a spectrum that went the other way, is the same

pub coefficients_through : (a : List ℕ) → Element a → coefficients_of (spectrum_of a) ≡ a
coefficients_through a e = coefficients_of-spectrum a e.size ∙ reduced-same q q-positive n a e

pub spectrum_through : (v : List ℕ) → Element v → spectrum_of (coefficients_of v) ≡ v
spectrum_through v e = spectrum_of-coefficients v e.size ∙ reduced-same q q-positive n v e

-- ---- a + c b

module _ (c : ℕ) where
  spectrum-combined : (a b : List ℕ) → length a ≡ n → length b ≡ n → spectrum_of (sum a (multiple c b)) ≡ sum (spectrum_of a) (multiple c (spectrum_of b))
  unfolding spectrum_of N.plus
  spectrum-combined a b ha hb =
      table_same n _ _ (λ k h.
      value-combined q q-positive n c a b ha hb _
      ∙ sym (ap₂ (add_mod q) (get_or-table n _ k 0 h) (scale_at q q-positive n c (spectrum_of b) k h ∙ ap (mul_mod q c) (get_or-table n _ k 0 h))))

  pub coefficients-combined : (v w : List ℕ) → length v ≡ n → length w ≡ n
      → coefficients_of (sum v (multiple c w)) ≡ sum (coefficients_of v) (multiple c (coefficients_of w))
  coefficients-combined v w hv hw =
      let a = coefficients_of v in
      let b = coefficients_of w in
      let ha = (coefficients-element v hv).size in
      let hb = (coefficients-element w hw).size in
      ap coefficients_of
      (sym (spectrum-combined a b ha hb
      ∙ ap₂ (λ (s t : List ℕ). sum s (multiple c t)) (spectrum_of-coefficients v hv) (spectrum_of-coefficients w hw)
      ∙ sum-reduced v _ ∙ ap (sum v) (multiple-reduced c w)))
      ∙ coefficients_through (sum a (multiple c b)) (sum-element a (multiple c b))

-- ---- sums, differences, multiples

module _ (v w : List ℕ) (hv : length v ≡ n) (hw : length w ≡ n) where
  pub coefficients_of-sum : coefficients_of (sum v w) ≡ sum (coefficients_of v) (coefficients_of w)
  coefficients_of-sum =
      ap coefficients_of (sym (sum-combined v w)) ∙ coefficients-combined 1 v w hv hw ∙ sum-combined (coefficients_of v) (coefficients_of w)

  pub coefficients_of-difference : coefficients_of (difference v w) ≡ difference (coefficients_of v) (coefficients_of w)
  coefficients_of-difference =
      ap coefficients_of (sym (difference-combined v w)) ∙ coefficients-combined (q - 1) v w hv hw ∙ difference-combined (coefficients_of v) (coefficients_of w)

zero-sum : (x : List ℕ) → Element x → sum (zeros n) x ≡ x
unfolding N.plus
zero-sum x e =
    sym (table_is n _ x 0 e.size (λ k h.
    sym (ap (λ (y : ℕ). add_mod q y (get_or x k 0)) (get_or-replicate {A = ℕ} n k 0 0 h) ∙ ap (λ (y : ℕ). y % q) (zero-add _) ∙ mod-eq_of_lt (below_at q q-positive x e.below k))))

zero-coefficients : coefficients_of (zeros n) ≡ zeros n
unfolding N.reduced
zero-coefficients =
    ap coefficients_of (sym spectrum_of-zeros) ∙ coefficients_of-spectrum (zeros n) (length-replicate {A = ℕ} n 0)
    ∙ sym (zeros-table n _ (λ k h. ap (λ (y : ℕ). y % q) (get_or-replicate {A = ℕ} n k 0 0 h)))

pub coefficients_of-multiple : (c : ℕ) (v : List ℕ) → length v ≡ n → coefficients_of (multiple c v) ≡ multiple c (coefficients_of v)
coefficients_of-multiple c v size =
    ap coefficients_of (sym (zero-sum (multiple c v) (multiple-element c v)))
    ∙ coefficients-combined c (zeros n) v (length-replicate {A = ℕ} n 0) size
    ∙ ap (λ (z : List ℕ). sum z (multiple c (coefficients_of v))) zero-coefficients
    ∙ zero-sum (multiple c (coefficients_of v)) (multiple-element c (coefficients_of v))

-- X^n = - 1 with n a power of two, on lists of numbers: the product by transform is the plain product, both ways are inverse to each
-- other, and a list is invertible exactly when its spectrum has no zero.
use mathlib.Core.Path.{◌≡◌, refl, sym, ap, ap₂, ◌∙◌}
use mathlib.Core.List.{List, [], ◌∷◌, map, zip_with}
use mathlib.Core.Logic.{◌↔◌, ◌≢◌}
use Prim.Native.Nat.{ℕ, suc, ◌+◌, ◌*◌, ◌%◌, ◌^◌, ◌<◌}
use native.Mathlib.Nat.{mod-lt, mod-eq_of_lt, mod-mod}
use native.Mathlib.Decide.{map_dec}
use native.Mathlib.Omega.{arith}
use lib.ListN.{length, get_or, length-map}
use Rattle.lists.specs.Table.{table}
use Rattle.lists.proofs.Tables.{table_is}
use Rattle.lists.proofs.Maps.{cons, map-map, map_same}
use Rattle.algebra.specs.Ring.{CommRing, IsField, pow}
use Rattle.algebra.specs.Residues.{Residue, residue, residues}
use Rattle.algebra.specs.Polynomials.{coefficient, negacyclic}
use Rattle.algebra.specs.Evaluation.{value, scaled}
use Rattle.algebra.specs.Transform.{Tree, Transform, interpolate}
use Rattle.algebra.specs.Transform as T
use Rattle.algebra.specs.Halving.{point, reversed}
use Rattle.algebra.specs.Numbers.{mul_mod, pow_mod, Element, Invertible, one, reduced, product, value_mod, backward_mod}
use Rattle.algebra.specs.OnNumbers.{IsTransform}
use Rattle.algebra.specs.Negacyclic.{NegacyclicRoot, spectrum, from_spectrum}
use Rattle.algebra.proofs.Residues.{ℤ/, of-add, of_one, of_pow, of-minus-one, same_of}
use Rattle.algebra.proofs.Inverses.{prime-field}
use Rattle.algebra.proofs.Evaluation as E
use Rattle.algebra.proofs.Halving as H
use Rattle.algebra.proofs.Numbers.{of-mul_mod, of-pow_mod, of-value_mod, of-coefficient, below-map, below_at}
use Rattle.algebra.proofs.Elements as El
use Rattle.algebra.proofs.PlainProduct.{plain-product, product_by-residues}
use Rattle.algebra.proofs.NumberTransform as N
use Rattle.algebra.proofs.NumberRing as R

module _ {q p d g u : ℕ} (pos : 0 < q) (given : NegacyclicRoot q p d g u) where
  abbrev Z : CommRing (Residue q)
  Z = ℤ/ q pos

  abbrev z : ℕ → Residue q
  z = residue q pos

  abbrev zs : List ℕ → List (Residue q)
  zs = residues q pos

  infixl 65 ◌⊕◌
  infixl 70 ◌⊗◌
  open Z use {◌⊕◌, ◌⊗◌, neg, 𝟘, 𝟙}

  pub field : IsField Z
  field = prime-field q given.prime pos

  pub root : pow Z (z g) (2 ^ d) ≡ neg 𝟙
  root = sym (of-pow_mod q pos g (2 ^ d)) ∙ ap z given.root ∙ of-minus-one q pos

  pub unit : z u ⊗ pow Z (𝟙 ⊕ 𝟙) d ≡ 𝟙
  unit =
      ap (λ (x : Residue q). z u ⊗ x) (ap (λ (x : Residue q). pow Z x d) two ∙ sym (of_pow q pos 2 d))
      ∙ sym (of-mul_mod q pos u (2 ^ d)) ∙ ap z given.inverse ∙ of_one q pos
    where
      two : 𝟙 ⊕ 𝟙 ≡ z 2
      two = ap₂ (λ (x y : Residue q). x ⊕ y) (sym (of_one q pos)) (sym (of_one q pos)) ∙ sym (of-add q pos 1 1)

  -- the transform of the ring
  pub transform : Transform Z p (negacyclic Z)
  transform = H.negacyclic_transform Z (z g) p d given.degree root (z u) unit

  size : suc p ≡ 1 * 2 ^ d
  size = given.degree ∙ omega arith

  -- ... as `spectrum` and `from_spectrum` do it on numbers
  pub transform_is : IsTransform Z z q p (negacyclic Z) transform (spectrum q d g) (from_spectrum q d g u)
  unfolding spectrum from_spectrum transform
  transform_is = record {
    forth_is = λ a h. (N.forward_mod_is q pos g (2 ^ d) 1 (point Z (z g)) (λ c l. l) values_one d (2 ^ d) a (h ∙ size)).1
        ∙ ap (λ (P : Tree Z). T.evaluate Z P (zs a)) (sym (H.negacyclic-tree Z (z g) p d given.degree root (z u) unit));
    forth-below = λ a h. N.forward_mod-below q g (2 ^ d) 1 (λ c l. l) pos (λ c l f. f) d (2 ^ d) a h.below;
    back_is = λ v h. scaled_is (backward_mod q g (2 ^ d) 1 (λ c l. l) d (2 ^ d) v)
        ∙ ap₂ (scaled Z) (sym (H.negacyclic-unfactor Z (z g) p d given.degree root (z u) unit))
        ((N.backward_mod_is q pos g (2 ^ d) 1 (point Z (z g)) (λ c l. l) coefficients-one d (2 ^ d) v (h ∙ size)).1
        ∙ ap (λ (P : Tree Z). interpolate Z P (zs v)) (sym (H.negacyclic-tree Z (z g) p d given.degree root (z u) unit)));
    back_below = λ v. below-map q (mul_mod q u) (λ x. mod-lt (u * x) pos) (backward_mod q g (2 ^ d) 1 (λ c l. l) d (2 ^ d) v);
  }
    where
      scaled_is : (v : List ℕ) → zs (map (mul_mod q u) v) ≡ scaled Z (z u) (zs v)
      scaled_is v = map-map (mul_mod q u) z v ∙ map_same _ _ (of-mul_mod q pos u) v ∙ sym (map-map z (λ (x : Residue q). z u ⊗ x) v)

      values_one : (c : ℕ) (a : List ℕ) → length a ≡ 1 → (length a ≡ 1) × (zs a ≡ T.evaluate Z (point Z (z g) c) (zs a))
      values_one c [] h = absurd (omega arith)
      values_one c (x ∷ []) h = (refl, unfold T.evaluate in cons (sym (E.value-constant Z _ (z x))) refl)
      values_one c (x ∷ y ∷ a) h = absurd (omega arith)

      coefficients-one : (c : ℕ) (v : List ℕ) → length v ≡ 1 → (length v ≡ 1) × (zs v ≡ interpolate Z (point Z (z g) c) (zs v))
      coefficients-one c v h = (h, unfold interpolate in refl)

  -- ---- the theorems

  pub product_by-spectrum : (a b : List ℕ) → length a ≡ suc p → length b ≡ suc p
      → from_spectrum q d g u (zip_with (mul_mod q) (spectrum q d g a) (spectrum q d g b)) ≡ product q (suc p) a b
  product_by-spectrum = R.product_by_transform q pos p (negacyclic Z) transform _ _ transform_is (product q (suc p)) (plain-product q pos p)

  pub from-spectrum_of : (a : List ℕ) → Element q (suc p) a → from_spectrum q d g u (spectrum q d g a) ≡ a
  from-spectrum_of = R.back_forth q pos p (negacyclic Z) transform _ _ transform_is

  pub spectrum_of_from : (v : List ℕ) → Element q (suc p) v → spectrum q d g (from_spectrum q d g u v) ≡ v
  spectrum_of_from = R.forth-back q pos p (negacyclic Z) transform _ _ transform_is

  pub invertible_iff : (b : List ℕ) → length b ≡ suc p
      → Invertible q (suc p) (product q (suc p)) b ↔ ((k : ℕ) → k < suc p → get_or (spectrum q d g b) k 0 % q ≢ 0)
  invertible_iff = R.invertible_iff q pos p (negacyclic Z) transform _ _ transform_is (product q (suc p)) (plain-product q pos p) field

  -- decided for lists of any length, with the inverse as witness
  pub is_invertible : (b : List ℕ) → Dec (Invertible q (suc p) (product q (suc p)) b)
  is_invertible b =
      map_dec (λ (i, h, e). (i, h, sym (same i) ∙ e)) (λ (i, h, e). (i, h, same i ∙ e))
      (R.decide q pos p (negacyclic Z) transform _ _ transform_is (product q (suc p)) (plain-product q pos p) field
      (reduced q (suc p) b) (El.reduced-element q pos (suc p) b).size)
    where
      same : (i : List ℕ) → product q (suc p) (reduced q (suc p) b) i ≡ product q (suc p) b i
      same i = product_by-residues q pos p _ b i i entry (λ k h. refl)
        where
          entry : (k : ℕ) → k < suc p → get_or (reduced q (suc p) b) k 0 % q ≡ get_or b k 0 % q
          entry k h = ap (λ (x : ℕ). x % q) (El.reduced-at q pos (suc p) b k h) ∙ mod-mod (get_or b k 0) q

  pub inverse_by-spectrum : (b w : List ℕ) → length b ≡ suc p → length w ≡ suc p
      → ((k : ℕ) → k < suc p → mul_mod q (get_or (spectrum q d g b) k 0) (get_or w k 0) ≡ 1) → product q (suc p) b (from_spectrum q d g u w) ≡ one q (suc p)
  inverse_by-spectrum = R.inverse_by_transform q pos p (negacyclic Z) transform _ _ transform_is (product q (suc p)) (plain-product q pos p)

  pub spectrum-element : (a : List ℕ) → Element q (suc p) a → Element q (suc p) (spectrum q d g a)
  spectrum-element = R.forth-element q pos p (negacyclic Z) transform _ _ transform_is

  pub from-spectrum-element : (v : List ℕ) → length v ≡ suc p → Element q (suc p) (from_spectrum q d g u v)
  from-spectrum-element = R.back-element q pos p (negacyclic Z) transform _ _ transform_is

  -- entry k of the spectrum is the value at g^(2 j + 1), where j is k with its bits reversed
  pub spectrum_is : (a : List ℕ) → Element q (suc p) a → spectrum q d g a ≡ table (suc p) (λ k. value_mod q (pow_mod q g (1 + 2 * reversed d k)) a)
  unfolding transform
  spectrum_is a h = table_is (suc p) _ (spectrum q d g a) 0 (spectrum-element a h).size entry
    where
      value-below : (x : ℕ) (a : List ℕ) → value_mod q x a < q
      value-below x [] = unfold value_mod in pos
      value-below x (c ∷ a) = unfold value_mod in mod-lt _ pos

      entry : (k : ℕ) → k < suc p → get_or (spectrum q d g a) k 0 ≡ value_mod q (pow_mod q g (1 + 2 * reversed d k)) a
      entry k l =
          sym (mod-eq_of_lt (below_at q pos (spectrum q d g a) (spectrum-element a h).below k))
          ∙ same_of q pos _ _ (
          sym (of-coefficient q pos (spectrum q d g a) k)
          ∙ ap (λ (v : List (Residue q)). coefficient Z v k) (transform_is.forth_is a h.size)
          ∙ H.negacyclic_entry Z (z g) p d given.degree root (z u) unit (zs a) (length-map a _ ∙ h.size) k l
          ∙ ap (λ (x : Residue q). value Z x (zs a)) (sym (of-pow_mod q pos g (1 + 2 * reversed d k)))
          ∙ sym (of-value_mod q pos _ a))
          ∙ mod-eq_of_lt (value-below _ a)

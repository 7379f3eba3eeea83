-- Lists of n numbers below q are a commutative ring, under every product that is the product of ℤ/q[X]/(X^n - r) on residues.
use mathlib.Core.Path.{◌≡◌, refl, sym, ap, ap₂, ◌∙◌}
use mathlib.Core.HLevel.{Σ_prop_path}
use mathlib.Core.List.{List, [], ◌∷◌}
use Prim.Native.Nat.{ℕ, zero, suc, ◌+◌, ◌-◌, ◌%◌, ◌<◌}
use native.Mathlib.Nat.{mod-lt, mod-eq_of_lt, add-mod-mod, zero-add}
use lib.ListN.{length, get_or, length-map}
use Rattle.lists.specs.Table.{table}
use Rattle.lists.proofs.Tables.{get_or-table, table_is, table_same, map-table, table-get_or}
use Rattle.algebra.specs.Ring.{CommRing}
use Rattle.algebra.specs.Residues.{Residue, residue, residues}
use Rattle.algebra.specs.Polynomials.{coefficient, Polynomial}
use Rattle.algebra.specs.Polynomials as P
use Rattle.algebra.specs.Numbers.{Element, Elements, add_mod, sub_mod, mul_mod, plus, minus, negate, scale, reduced, constant, one}
use Rattle.algebra.specs.OnNumbers.{IsProduct}
use Rattle.algebra.proofs.Ring as L
use Rattle.algebra.proofs.Ring.{subring}
use Rattle.algebra.proofs.Residues.{ℤ/, of-mod, of_zero, of_one}
use Rattle.algebra.proofs.Polynomials as Q
use Rattle.algebra.proofs.Numbers.{below_at, element-table, element-prop, of-add_mod, of-sub_mod, of-mul_mod, of-coefficient, residues_injective}

pub elements_same : {q n : ℕ} (x y : Elements q n) → x.0 ≡ y.0 → x ≡ y
elements_same {q} {n} x y e = Σ_prop_path (element-prop q n) e

module _ (q : ℕ) (pos : 0 < q) (n : ℕ) where
  abbrev Z : CommRing (Residue q)
  Z = ℤ/ q pos

  abbrev z : ℕ → Residue q
  z = residue q pos

  abbrev zs : List ℕ → List (Residue q)
  zs = residues q pos

  infixl 65 ◌⊕◌
  infixl 70 ◌⊗◌
  open Z use {◌⊕◌, ◌⊗◌, neg, 𝟘, 𝟙}

  -- ---- the entries

  pub plus-at : (a b : List ℕ) (k : ℕ) → k < n → get_or (plus q n a b) k 0 ≡ add_mod q (get_or a k 0) (get_or b k 0)
  unfolding plus
  plus-at a b k h = get_or-table n _ k 0 h

  pub minus-at : (a b : List ℕ) (k : ℕ) → k < n → get_or (minus q n a b) k 0 ≡ sub_mod q (get_or a k 0) (get_or b k 0)
  unfolding minus
  minus-at a b k h = get_or-table n _ k 0 h

  pub negate-at : (a : List ℕ) (k : ℕ) → k < n → get_or (negate q n a) k 0 ≡ sub_mod q 0 (get_or a k 0)
  unfolding negate
  negate-at a k h = get_or-table n _ k 0 h

  pub scale_at : (c : ℕ) (a : List ℕ) (k : ℕ) → k < n → get_or (scale q n c a) k 0 ≡ mul_mod q c (get_or a k 0)
  unfolding scale
  scale_at c a k h = get_or-table n _ k 0 h

  pub reduced-at : (a : List ℕ) (k : ℕ) → k < n → get_or (reduced q n a) k 0 ≡ get_or a k 0 % q
  unfolding reduced
  reduced-at a k h = get_or-table n _ k 0 h

  -- a difference is the sum with the opposite
  pub minus_is : (a b : List ℕ) → minus q n a b ≡ plus q n a (negate q n b)
  unfolding minus plus
  minus_is a b = table_same n _ _ (λ k h.
      sym (ap (add_mod q (get_or a k 0)) (negate-at b k h) ∙ add-mod-mod (get_or a k 0) (0 + (q - get_or b k 0 % q)) q
      ∙ ap (λ (x : ℕ). (get_or a k 0 + x) % q) (zero-add _)))

  -- an element is reduced
  pub reduced-same : (a : List ℕ) → Element q n a → reduced q n a ≡ a
  unfolding reduced
  reduced-same a h = sym (table_is n _ a 0 h.size (λ k l. sym (mod-eq_of_lt (below_at q pos a h.below k))))

  -- ---- the operations give elements, and act on the residues coefficient by coefficient

  pub plus-element : (a b : List ℕ) → Element q n (plus q n a b)
  unfolding plus
  plus-element a b = element-table q n _ (λ k. mod-lt _ pos)

  pub minus-element : (a b : List ℕ) → Element q n (minus q n a b)
  unfolding minus
  minus-element a b = element-table q n _ (λ k. mod-lt _ pos)

  pub negate-element : (a : List ℕ) → Element q n (negate q n a)
  unfolding negate
  negate-element a = element-table q n _ (λ k. mod-lt _ pos)

  pub scale-element : (c : ℕ) (a : List ℕ) → Element q n (scale q n c a)
  unfolding scale
  scale-element c a = element-table q n _ (λ k. mod-lt _ pos)

  pub reduced-element : (a : List ℕ) → Element q n (reduced q n a)
  unfolding reduced
  reduced-element a = element-table q n _ (λ k. mod-lt _ pos)

  pub residues-plus : (a b : List ℕ) → zs (plus q n a b) ≡ P.plus Z n (zs a) (zs b)
  unfolding plus P.plus
  residues-plus a b =
      map-table z n _
      ∙ table_same n _ _ (λ k h. of-add_mod q pos _ _ ∙ ap₂ (λ (x y : Residue q). x ⊕ y) (sym (of-coefficient q pos a k)) (sym (of-coefficient q pos b k)))

  pub residues-minus : (a b : List ℕ) → zs (minus q n a b) ≡ table n (λ k. coefficient Z (zs a) k ⊕ neg (coefficient Z (zs b) k))
  unfolding minus
  residues-minus a b =
      map-table z n _
      ∙ table_same n _ _ (λ k h. of-sub_mod q pos _ _ ∙ ap₂ (λ (x y : Residue q). x ⊕ neg y) (sym (of-coefficient q pos a k)) (sym (of-coefficient q pos b k)))

  pub residues-negate : (a : List ℕ) → zs (negate q n a) ≡ P.negate Z n (zs a)
  unfolding negate P.negate
  residues-negate a = map-table z n _ ∙ table_same n _ _ (λ k h.
      of-sub_mod q pos 0 (get_or a k 0) ∙ ap₂ (λ (x y : Residue q). x ⊕ neg y) (of_zero q pos) (sym (of-coefficient q pos a k)) ∙ L.zero-plus Z _)

  pub residues-scale : (c : ℕ) (a : List ℕ) → zs (scale q n c a) ≡ table n (λ k. z c ⊗ coefficient Z (zs a) k)
  unfolding scale
  residues-scale c a =
      map-table z n _ ∙ table_same n _ _ (λ k h. of-mul_mod q pos c _ ∙ ap (λ (x : Residue q). z c ⊗ x) (sym (of-coefficient q pos a k)))

  pub residues-reduced : (a : List ℕ) → zs (reduced q n a) ≡ P.padded Z n (zs a)
  unfolding reduced
  residues-reduced a = map-table z n _ ∙ table_same n _ _ (λ k h. of-mod q pos _ ∙ sym (of-coefficient q pos a k))

  pub residues_of-reduced : (a : List ℕ) → length a ≡ n → zs (reduced q n a) ≡ zs a
  residues_of-reduced a h = residues-reduced a ∙ table-get_or n (zs a) 𝟘 (length-map a _ ∙ h)

-- ---- the ring

module _ (q : ℕ) (pos : 0 < q) (p : ℕ) where
  pub residues-one : residues q pos (one q (suc p)) ≡ P.padded (ℤ/ q pos) (suc p) (CommRing.𝟙 (ℤ/ q pos) ∷ [])
  residues-one = residues-reduced q pos (suc p) (1 ∷ []) ∙ ap (λ (x : Residue q). P.padded (ℤ/ q pos) (suc p) (x ∷ [])) (of_one q pos)

  pub residues-zero : residues q pos (constant q (suc p) 0) ≡ P.padded (ℤ/ q pos) (suc p) []
  residues-zero = residues-reduced q pos (suc p) (0 ∷ []) ∙ table_same (suc p) _ _ (λ k h. zeros k)
    where
      zeros : (k : ℕ) → coefficient (ℤ/ q pos) (residues q pos (0 ∷ [])) k ≡ CommRing.𝟘 (ℤ/ q pos)
      zeros zero = of_zero q pos
      zeros (suc k) = refl

module _ (q : ℕ) (pos : 0 < q) (p : ℕ) (r : List (Residue q)) (times : List ℕ → List ℕ → List ℕ) (is : IsProduct (ℤ/ q pos) (residue q pos) q p r times) where
  abbrev polynomials : CommRing (Polynomial (ℤ/ q pos) p)
  polynomials = Q.polynomials (ℤ/ q pos) p r is.fits

  abbrev pub class : Elements q (suc p) → Polynomial (ℤ/ q pos) p
  class x = (residues q pos x.0, length-map x.0 _ ∙ x.1.size)

  pub class_injective : (x y : Elements q (suc p)) → class x ≡ class y → x ≡ y
  class_injective x y e =
      elements_same x y (residues_injective q pos x.0 y.0 x.1.below y.1.below (ap (λ (l : Polynomial (ℤ/ q pos) p). l.0) e))

  abbrev pub plusₑ : Elements q (suc p) → Elements q (suc p) → Elements q (suc p)
  plusₑ x y = (plus q (suc p) x.0 y.0, plus-element q pos (suc p) x.0 y.0)

  abbrev pub timesₑ : Elements q (suc p) → Elements q (suc p) → Elements q (suc p)
  timesₑ x y = (times x.0 y.0, is.element x.0 y.0)

  abbrev pub negateₑ : Elements q (suc p) → Elements q (suc p)
  negateₑ x = (negate q (suc p) x.0, negate-element q pos (suc p) x.0)

  abbrev pub constantₑ : ℕ → Elements q (suc p)
  constantₑ c = (constant q (suc p) c, reduced-element q pos (suc p) (c ∷ []))

  same_class : (x y : Polynomial (ℤ/ q pos) p) → x.0 ≡ y.0 → x ≡ y
  same_class = Q.polynomial-same (ℤ/ q pos) p r is.fits

  pub class-plus : (x y : Elements q (suc p)) → class (plusₑ x y) ≡ CommRing.◌⊕◌ polynomials (class x) (class y)
  class-plus x y =
      same_class _ _ (residues-plus q pos (suc p) x.0 y.0 ∙ sym (Q.plus-list (ℤ/ q pos) p r is.fits (class x) (class y)))

  pub class-times : (x y : Elements q (suc p)) → class (timesₑ x y) ≡ CommRing.◌⊗◌ polynomials (class x) (class y)
  class-times x y =
      same_class _ _ (is.same x.0 y.0 x.1.size y.1.size ∙ sym (Q.times-list (ℤ/ q pos) p r is.fits (class x) (class y)))

  pub class-negate : (x : Elements q (suc p)) → class (negateₑ x) ≡ CommRing.neg polynomials (class x)
  class-negate x =
      same_class _ _ (residues-negate q pos (suc p) x.0 ∙ sym (Q.neg-list (ℤ/ q pos) p r is.fits (class x)))

  pub class-zero : class (constantₑ 0) ≡ CommRing.𝟘 polynomials
  class-zero = same_class _ _ (residues-zero q pos p ∙ sym (Q.zero-list (ℤ/ q pos) p r is.fits))

  pub class-one : class (constantₑ 1) ≡ CommRing.𝟙 polynomials
  class-one = same_class _ _ (residues-one q pos p ∙ sym (Q.one_list (ℤ/ q pos) p r is.fits))

  -- where it unfolds, the list of a sum is `plus` of the lists, that of a product `times`, that of the opposite `negate`, that of 1 is `one`
  unfoldable pub elements : CommRing (Elements q (suc p))
  elements =
      subring polynomials class class_injective plusₑ timesₑ negateₑ (constantₑ 0) (constantₑ 1)
      class-plus class-times class-negate class-zero class-one

  -- a product depends on the residues of its factors only
  pub times_by-residues : (a b a' b' : List ℕ) → length a ≡ suc p → length b ≡ suc p → length a' ≡ suc p → length b' ≡ suc p
      → residues q pos a ≡ residues q pos a' → residues q pos b ≡ residues q pos b' → times a b ≡ times a' b'
  times_by-residues a b a' b' ha hb ha' hb' e f =
      residues_injective q pos (times a b) (times a' b') (is.element a b).below (is.element a' b').below
      (is.same a b ha hb ∙ ap₂ (P.product (ℤ/ q pos) p r) e f ∙ sym (is.same a' b' ha' hb'))

  pub times-reduced : (a b : List ℕ) → length a ≡ suc p → length b ≡ suc p → times (reduced q (suc p) a) (reduced q (suc p) b) ≡ times a b
  times-reduced a b ha hb =
      times_by-residues _ _ a b (reduced-element q pos (suc p) a).size (reduced-element q pos (suc p) b).size ha hb
      (residues_of-reduced q pos (suc p) a ha) (residues_of-reduced q pos (suc p) b hb)

  -- a multiple is the product with a constant
  pub times-constant : (c : ℕ) (a : List ℕ) → length a ≡ suc p → times (constant q (suc p) c) a ≡ scale q (suc p) c a
  times-constant c a h =
      residues_injective q pos _ _ (is.element (constant q (suc p) c) a).below (scale-element q pos (suc p) c a).below
      (is.same (constant q (suc p) c) a (reduced-element q pos (suc p) (c ∷ [])).size h
      ∙ ap (λ (x : List (Residue q)). P.product (ℤ/ q pos) p r x (residues q pos a)) (residues-reduced q pos (suc p) (c ∷ []))
      ∙ Q.product-constant (ℤ/ q pos) p r is.fits (residue q pos c) (residues q pos a) (length-map a _ ∙ h)
      ∙ sym (residues-scale q pos (suc p) c a))

  -- an inverse is the only one
  pub inverse-unique : (b i j : List ℕ) → length b ≡ suc p → Element q (suc p) i → Element q (suc p) j
      → times b i ≡ one q (suc p) → times b j ≡ one q (suc p) → i ≡ j
  unfolding elements
  inverse-unique b i j hb hi hj e f =
      ap (λ (x : Elements q (suc p)). x.0)
      (L.inverse-unique elements (reduced q (suc p) b, reduced-element q pos (suc p) b) (i, hi) (j, hj)
      (elements_same _ _ (to-b i hi.size ∙ e)) (elements_same _ _ (to-b j hj.size ∙ f)))
    where
      to-b : (i : List ℕ) → length i ≡ suc p → times (reduced q (suc p) b) i ≡ times b i
      to-b i h = times_by-residues _ i b i (reduced-element q pos (suc p) b).size h hb h (residues_of-reduced q pos (suc p) b hb) refl

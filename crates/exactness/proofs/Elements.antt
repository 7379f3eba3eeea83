-- The elements of a setting are a commutative ring, whose operations on lists are those of specs/Setting. What the scheme makes are elements.
use mathlib.Core.Path.{◌≡◌, refl, sym, ap, ◌∙◌, subst}
use mathlib.Core.List.{List, [], ◌∷◌}
use Prim.Native.Nat.{ℕ, zero, suc, ◌*◌, ◌%◌}
use native.Mathlib.Nat.{mod-mod}
use lib.ListN.{length, get_or}
use Rattle.lists.proofs.Tables.{table_same}
use Rattle.algebra.specs.Ring.{CommRing}
use Rattle.algebra.specs.Numbers as N
use Rattle.algebra.specs.Numbers.{mul_mod}
use Rattle.algebra.proofs.Ring.{subring}
use Rattle.algebra.proofs.Ring as L
use Rattle.algebra.proofs.Residues.{mod-mul-right}
use Rattle.algebra.proofs.Elements as A
use Rattle.exactness.specs.Setting.{Setting, Element, sum, difference, multiple, one}
use Rattle.exactness.specs.Scheme.{key_element, key_error, masked, recovered_r}
use Rattle.exactness.specs.Givens.{Givens}

module _ (S : Setting) (G : Givens S) where
  -- an element with the proof that it is one
  abbrev pub Elements : Type 0
  Elements = N.Elements S.q S.n

  pub same-element : (x y : Elements) → x.0 ≡ y.0 → x ≡ y
  same-element x y e = A.elements_same x y e

  -- ---- every operation gives an element

  pub sum-element : (a b : List ℕ) → Element S (sum S a b)
  sum-element = A.plus-element S.q G.q-positive S.n

  pub difference-element : (a b : List ℕ) → Element S (difference S a b)
  difference-element = A.minus-element S.q G.q-positive S.n

  pub multiple-element : (c : ℕ) (a : List ℕ) → Element S (multiple S c a)
  multiple-element = A.scale-element S.q G.q-positive S.n

  pub product-element : (a b : List ℕ) → Element S (S.product a b)
  product-element a b = subst (λ (m : ℕ). N.Element S.q m (S.product a b)) (sym G.degree) (G.is-product.element a b)

  pub key_element-element : (a s e : List ℕ) → Element S (key_element S a s e)
  unfolding key_element
  key_element-element a s e = multiple-element 5 _

  pub key_error-element : (a b s : List ℕ) → Element S (key_error S a b s)
  unfolding key_error
  key_error-element a b s = difference-element _ _

  pub masked-element : (a r e : List ℕ) → Element S (masked S a r e)
  unfolding masked
  masked-element a r e = sum-element _ e

  pub recovered_r-element : (i s2 e2 : List ℕ) → Element S (recovered_r S i s2 e2)
  unfolding recovered_r
  recovered_r-element i s2 e2 = product-element _ i

  -- ---- the ring: that of crate algebra at p + 1, brought to n

  abbrev above : CommRing (N.Elements S.q (suc G.p))
  above = A.elements S.q G.q-positive G.p G.rule S.product G.is-product

  abbrev up : Elements → N.Elements S.q (suc G.p)
  up x = (x.0, subst (λ (m : ℕ). N.Element S.q m x.0) G.degree x.1)

  -- c, 0, .., 0
  unfoldable pub constant : ℕ → Elements
  constant c = (N.constant S.q S.n c, A.reduced-element S.q G.q-positive S.n (c ∷ []))

  abbrev plusₑ : Elements → Elements → Elements
  plusₑ x y = (sum S x.0 y.0, sum-element x.0 y.0)

  abbrev timesₑ : Elements → Elements → Elements
  timesₑ x y = (S.product x.0 y.0, product-element x.0 y.0)

  abbrev negateₑ : Elements → Elements
  negateₑ x = (N.negate S.q S.n x.0, A.negate-element S.q G.q-positive S.n x.0)

  -- where it unfolds, the lists of its sums, products and one are those of specs/Setting
  unfoldable pub elements : CommRing Elements
  unfolding A.elements constant
  elements =
      subring above up (λ x y e. same-element x y (ap (λ (u : N.Elements S.q (suc G.p)). u.0) e))
      plusₑ timesₑ negateₑ (constant 0) (constant 1)
      (λ x y. A.elements_same _ _ (ap (λ (m : ℕ). N.plus S.q m x.0 y.0) G.degree))
      (λ x y. A.elements_same _ _ refl)
      (λ x. A.elements_same _ _ (ap (λ (m : ℕ). N.negate S.q m x.0) G.degree))
      (A.elements_same _ _ (ap (λ (m : ℕ). N.constant S.q m 0) G.degree))
      (A.elements_same _ _ (ap (λ (m : ℕ). N.constant S.q m 1) G.degree))

  infixl 65 ◌⊕◌
  infixl 70 ◌⊗◌
  open elements use {◌⊕◌, ◌⊗◌, neg, 𝟙}

  -- ---- differences and multiples

  infixl 65 ◌⊖◌
  unfoldable pub ◌⊖◌ : Elements → Elements → Elements
  x ⊖ y = (difference S x.0 y.0, difference-element x.0 y.0)

  infixl 75 ◌⋆◌
  unfoldable pub ◌⋆◌ : ℕ → Elements → Elements
  c ⋆ x = (multiple S c x.0, multiple-element c x.0)

  pub minus_is : (x y : Elements) → x ⊖ y ≡ x ⊕ neg y
  unfolding ◌⊖◌ elements
  minus_is x y = same-element _ _ (A.minus_is S.q G.q-positive S.n x.0 y.0)

  pub multiple_is : (c : ℕ) (x : Elements) → c ⋆ x ≡ constant c ⊗ x
  unfolding ◌⋆◌ elements constant
  multiple_is c x = same-element _ _ (sym (subst Claim (sym G.degree) at_p x.1.size))
    where
      Claim : ℕ → Type 0
      Claim m = length x.0 ≡ m → S.product (N.constant S.q m c) x.0 ≡ N.scale S.q m c x.0

      at_p : Claim (suc G.p)
      at_p = A.times-constant S.q G.q-positive G.p G.rule S.product G.is-product c x.0

  -- 5 has the reciprocal `fifth`
  fifth-list : multiple S 5 (N.constant S.q S.n S.fifth) ≡ one S
  unfolding N.scale N.reduced
  fifth-list = table_same S.n _ _ (λ k h. ap (mul_mod S.q 5) (A.reduced-at S.q G.q-positive S.n (S.fifth ∷ []) k h) ∙ entry k)
    where
      entry : (k : ℕ) → 5 * (get_or (S.fifth ∷ []) k 0 % S.q) % S.q ≡ get_or (1 ∷ []) k 0 % S.q
      entry zero = mod-mul-right 5 S.fifth S.q ∙ sym (mod-mod (5 * S.fifth) S.q) ∙ ap (λ (x : ℕ). x % S.q) G.five-fifth
      entry (suc k) = mod-mul-right 5 0 S.q

  five-fifth : constant 5 ⊗ constant S.fifth ≡ 𝟙
  unfolding ◌⋆◌ elements constant
  five-fifth = sym (multiple_is 5 (constant S.fifth)) ∙ same-element (5 ⋆ constant S.fifth) 𝟙 fifth-list

  five-fifths : (x : Elements) → constant 5 ⊗ (constant S.fifth ⊗ x) ≡ x
  five-fifths x = sym (L.times_assoc elements _ _ x) ∙ ap (λ (u : Elements). u ⊗ x) five-fifth ∙ L.one-times elements x

  pub five_of-fifth : (x : Elements) → 5 ⋆ (S.fifth ⋆ x) ≡ x
  five_of-fifth x = simp multiple_is (five-fifths x)

  pub fifth_of_five : (x : Elements) → S.fifth ⋆ (5 ⋆ x) ≡ x
  fifth_of_five x = simp multiple_is (L.times-left_comm elements _ _ x ∙ five-fifths x)

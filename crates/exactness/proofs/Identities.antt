-- The identities behind the scheme, on lists: what an encapsulation adds, the steps of decapsulation take away again.
use mathlib.Core.Path.{◌≡◌, ap, ◌∙◌}
use mathlib.Core.List.{List}
use Prim.Native.Nat.{ℕ}
use Rattle.algebra.proofs.Ring.{ring}
use Rattle.algebra.proofs.Ring as L
use Rattle.exactness.specs.Setting.{Setting, Element, sum, difference, multiple, one}
use Rattle.exactness.specs.Scheme.{Triple, key_element, key_error, masked, summed, phase, recovered_r, recovered_e1}
use Rattle.exactness.specs.Givens.{Givens}
use Rattle.exactness.specs.Promises.{phase_of, phase_quotient}
use Rattle.exactness.proofs.Elements as E
use Rattle.exactness.proofs.Elements.{elements, same-element, constant, minus_is, multiple_is, five_of-fifth, fifth_of_five, product-element}

-- Each identity is one of the ring of elements first, and then one of the lists.
module _ (S : Setting) (G : Givens S) where
  abbrev Elements : Type 0
  Elements = E.Elements S G

  infixl 65 ◌⊕◌
  infixl 70 ◌⊗◌
  open elements S G use {◌⊕◌, ◌⊗◌, neg, 𝟙}

  infixl 65 ◌⊖◌
  abbrev ◌⊖◌ : Elements → Elements → Elements
  x ⊖ y = E.◌⊖◌ S G x y

  infixl 75 ◌⋆◌
  abbrev ◌⋆◌ : ℕ → Elements → Elements
  c ⋆ x = E.◌⋆◌ S G c x

  abbrev list : Elements → List ℕ
  list x = x.0

  -- ---- products, sums and differences

  pub product_comm : (x y : List ℕ) → Element S x → Element S y → S.product x y ≡ S.product y x
  unfolding elements
  product_comm x y hx hy = ap list (L.times_comm (elements S G) (x, hx) (y, hy))

  less-right : (x y : Elements) → x ⊕ y ⊖ y ≡ x
  less-right x y = simp (minus_is, ring)

  less-left : (x y : Elements) → x ⊕ y ⊖ x ≡ y
  less-left x y = simp (minus_is, ring)

  put_back : (x y : Elements) → x ⊕ (y ⊖ x) ≡ y
  put_back x y = simp (minus_is, ring)

  -- step 5, of a sum with the dummy
  pub sum_less : (x y : List ℕ) → Element S x → Element S y → difference S (sum S x y) y ≡ x
  unfolding elements E.◌⊖◌
  sum_less x y hx hy = ap list (less-right (x, hx) (y, hy))

  -- ---- step 1: the sums for an encapsulation are an encapsulation of sums

  added : (a r e r' e' : Elements) → a ⊗ r ⊕ e ⊕ (a ⊗ r' ⊕ e') ≡ a ⊗ (r ⊕ r') ⊕ (e ⊕ e')
  added a r e r' e' = simp ring

  pub summed-masked : (a r e r' e' : List ℕ) → Element S a → Element S r → Element S e → Element S r' → Element S e'
      → summed S a r' e' (masked S a r e) ≡ masked S a (sum S r r') (sum S e e')
  unfolding summed masked elements
  summed-masked a r e r' e' ha hr he hr' he' = ap list (added (a, ha) (r, hr) (e, he) (r', hr') (e', he'))

  -- ---- step 2: m = e2 + 5 w

  split : (five a s e r e1 e2 : Elements)
      → five ⊗ (a ⊗ s ⊕ e) ⊗ r ⊕ e2 ⊕ neg (five ⊗ ((a ⊗ r ⊕ e1) ⊗ s)) ≡ e2 ⊕ five ⊗ (e ⊗ r ⊕ neg (e1 ⊗ s))
  split five a s e r e1 e2 = simp ring

  split_by_5 : (a s e r e1 e2 : Elements) → 5 ⋆ (a ⊗ s ⊕ e) ⊗ r ⊕ e2 ⊖ 5 ⋆ ((a ⊗ r ⊕ e1) ⊗ s) ≡ e2 ⊕ 5 ⋆ (e ⊗ r ⊖ e1 ⊗ s)
  split_by_5 a s e r e1 e2 = simp (minus_is, multiple_is) (split (constant S G 5) a s e r e1 e2)

  pub phase-split : (a s e : List ℕ) (t : Triple) → Element S a → Element S s → Element S e → Element S t.r → Element S t.e1 → Element S t.e2
      → phase_of S a (key_element S a s e) s t ≡ sum S t.e2 (multiple S 5 (phase_quotient S s e t))
  unfolding phase masked key_element phase_quotient elements E.◌⊖◌ E.◌⋆◌
  phase-split a s e t ha hs he hr h1 h2 = ap list (split_by_5 (a, ha) (s, hs) (e, he) (t.r, hr) (t.e1, h1) (t.e2, h2))

  -- ---- step 4: R and E1, from an encapsulation

  -- b times what the inverse of b has multiplied
  undivided : (b i x : Elements) → b ⊗ i ≡ 𝟙 → b ⊗ (x ⊗ i) ≡ x
  undivided b i x h = L.times-left_comm (elements S G) b x i ∙ ap (λ (u : Elements). x ⊗ u) h ∙ L.times-one (elements S G) x

  divided : (b i r e : Elements) → b ⊗ i ≡ 𝟙 → (b ⊗ r ⊕ e ⊖ e) ⊗ i ≡ r
  divided b i r e h = ap (λ (u : Elements). u ⊗ i) (less-right (b ⊗ r) e) ∙ L.times_assoc (elements S G) b r i ∙ undivided b i r h

  pub r-recovered : (b i r e : List ℕ) → Element S b → Element S i → Element S r → Element S e → S.product b i ≡ one S
      → recovered_r S i (masked S b r e) e ≡ r
  unfolding recovered_r masked elements E.◌⊖◌ constant
  r-recovered b i r e hb hi hr he h = ap list (divided (b, hb) (i, hi) (r, hr) (e, he) (same-element S G _ _ h))

  pub e1-recovered : (a r e : List ℕ) → Element S e → recovered_e1 S a (masked S a r e) r ≡ e
  unfolding recovered_e1 masked elements E.◌⊖◌
  e1-recovered a r e he = ap list (less-left (S.product a r, product-element S G a r) (e, he))

  -- ---- steps 4 and 5 back: whatever R and E2 are, the formula turns the result into c1 and c2

  first : (a r r' e' c : Elements) → a ⊗ (r ⊖ r') ⊕ (c ⊕ (a ⊗ r' ⊕ e') ⊖ a ⊗ r ⊖ e') ≡ c
  first a r r' e' c = simp (minus_is, ring)

  pub first_back : (a r r' e' c : List ℕ) → Element S a → Element S r → Element S r' → Element S e' → Element S c
      → masked S a (difference S r r') (difference S (recovered_e1 S a (summed S a r' e' c) r) e') ≡ c
  unfolding recovered_e1 summed masked elements E.◌⊖◌
  first_back a r r' e' c ha hr hr' he' hc = ap list (first (a, ha) (r, hr) (r', hr') (e', he') (c, hc))

  second : (b i r' e' e c : Elements) → b ⊗ i ≡ 𝟙 → b ⊗ ((c ⊕ (b ⊗ r' ⊕ e') ⊖ e) ⊗ i ⊖ r') ⊕ (e ⊖ e') ≡ c
  second b i r' e' e c h =
      apart b ((c ⊕ (b ⊗ r' ⊕ e') ⊖ e) ⊗ i) r' (e ⊖ e')
      ∙ ap (λ (u : Elements). u ⊕ (neg (b ⊗ r') ⊕ (e ⊖ e'))) (undivided b i (c ⊕ (b ⊗ r' ⊕ e') ⊖ e) h)
      ∙ left b r' e' e c
    where
      apart : (b x r' u : Elements) → b ⊗ (x ⊖ r') ⊕ u ≡ b ⊗ x ⊕ (neg (b ⊗ r') ⊕ u)
      apart b x r' u = simp (minus_is, ring)

      left : (b r' e' e c : Elements) → c ⊕ (b ⊗ r' ⊕ e') ⊖ e ⊕ (neg (b ⊗ r') ⊕ (e ⊖ e')) ≡ c
      left b r' e' e c = simp (minus_is, ring)

  pub second_back : (b i r' e' e c : List ℕ) → Element S b → Element S i → Element S r' → Element S e' → Element S e → Element S c
      → S.product b i ≡ one S → masked S b (difference S (recovered_r S i (summed S b r' e' c) e) r') (difference S e e') ≡ c
  unfolding recovered_r summed masked elements E.◌⊖◌ constant
  second_back b i r' e' e c hb hi hr' he' he hc h =
      ap list (second (b, hb) (i, hi) (r', hr') (e', he') (e, he) (c, hc) (same-element S G _ _ h))

  -- ---- keys: 5 × (a × s + e) and b ÷ 5 - a × s undo each other

  error_of : (x e : Elements) → S.fifth ⋆ (5 ⋆ (x ⊕ e)) ⊖ x ≡ e
  error_of x e = ap (λ (u : Elements). u ⊖ x) (fifth_of_five S G (x ⊕ e)) ∙ less-left x e

  pub error_of-key : (a s e : List ℕ) → Element S e → key_error S a (key_element S a s e) s ≡ e
  unfolding key_error key_element elements E.◌⊖◌ E.◌⋆◌
  error_of-key a s e he = ap list (error_of (S.product a s, product-element S G a s) (e, he))

  key_of : (x b : Elements) → 5 ⋆ (x ⊕ (S.fifth ⋆ b ⊖ x)) ≡ b
  key_of x b = ap (λ (u : Elements). 5 ⋆ u) (put_back x (S.fifth ⋆ b)) ∙ five_of-fifth S G b

  pub key_of_error : (a b s : List ℕ) → Element S b → key_element S a s (key_error S a b s) ≡ b
  unfolding key_error key_element elements E.◌⊖◌ E.◌⋆◌
  key_of_error a b s hb = ap list (key_of (S.product a s, product-element S G a s) (b, hb))

-- Evaluation at a root of X^n - r takes products of R[X]/(X^n - r) to products.
use mathlib.Core.Path.{◌≡◌, refl, sym, ap, ap₂, ◌∙◌}
use mathlib.Core.List.{List, [], ◌∷◌, ◌++◌, zip_with}
use mathlib.Core.Bool.{Bool, true, false, cond}
use Prim.Native.Nat.{ℕ, zero, suc, ◌≤◌, zero-le, suc-le-suc}
use native.Mathlib.Nat.{le_of_suc-le-suc, not-suc-le-zero, suc_inj}
use native.Mathlib.Omega.{arith}
use lib.Dec.{T, ltb, lt→ltb}
use lib.ListN.{length, replicate}
use Rattle.lists.specs.Table.{table}
use Rattle.lists.proofs.Tables.{table_same, table-zero, table-cons}
use Rattle.lists.proofs.Maps.{cons}
use Rattle.algebra.specs.Ring.{CommRing, pow}
use Rattle.algebra.specs.Polynomials.{coefficient, padded, product}
use Rattle.algebra.specs.Polynomials as P
use Rattle.algebra.specs.Evaluation.{value, values, Root, All, scaled, pointwise}
use Rattle.algebra.proofs.Ring.{ring, pow-zero, pow-suc}

module _ {F : Type 0} (R : CommRing F) where
  infixl 65 ◌⊕◌
  infixl 70 ◌⊗◌
  open R use {◌⊕◌, ◌⊗◌, neg, 𝟘, 𝟙}

  pub value-nil : (x : F) → value R x [] ≡ 𝟘
  unfolding value
  value-nil x = refl

  pub value-cons : (x c : F) (a : List F) → value R x (c ∷ a) ≡ c ⊕ x ⊗ value R x a
  unfolding value
  value-cons x c a = refl

  pub value-constant : (x c : F) → value R x (c ∷ []) ≡ c
  value-constant x c = simp (value-cons, value-nil, ring)

  pub value-append : (x : F) (a b : List F) → value R x (a ++ b) ≡ value R x a ⊕ pow R x (length a) ⊗ value R x b
  value-append x [] b = simp (value-nil, pow-zero, ring)
  value-append x (c ∷ a) b = simp (value-cons, value-append x a b, pow-suc, ring)

  pub value-scaled : (x k : F) (a : List F) → value R x (scaled R k a) ≡ k ⊗ value R x a
  value-scaled x k [] = simp (value-nil, ring)
  value-scaled x k (c ∷ a) = rw (value-cons, value-cons, value-scaled x k a) (go (value R x a))
    where
      go : (s : F) → k ⊗ c ⊕ x ⊗ (k ⊗ s) ≡ k ⊗ (c ⊕ x ⊗ s)
      go s = simp ring

  -- c + d y at each place, for two lists of one length
  pub value-zip : (x y : F) (a b : List F) → length a ≡ length b → value R x (zip_with (λ c d. c ⊕ y ⊗ d) a b) ≡ value R x a ⊕ y ⊗ value R x b
  unfolding zip_with
  value-zip x y [] [] h = simp (value-nil, ring)
  value-zip x y [] (d ∷ b) h = absurd (omega arith)
  value-zip x y (c ∷ a) [] h = absurd (omega arith)
  value-zip x y (c ∷ a) (d ∷ b) h = rw (value-cons, value-zip x y a b (suc_inj h), value-cons, value-cons) (go (value R x a) (value R x b))
    where
      go : (s t : F) → c ⊕ y ⊗ d ⊕ x ⊗ (s ⊕ y ⊗ t) ≡ c ⊕ x ⊗ s ⊕ y ⊗ (d ⊕ x ⊗ t)
      go s t = simp ring

  -- ---- values of sequences, cut at n

  value_𝟎 : (x : F) (n : ℕ) → value R x (table n (P.𝟎 R)) ≡ 𝟘
  unfolding P.𝟎
  value_𝟎 x zero = rw (table-zero, value-nil)
  value_𝟎 x (suc n) = rw (table-cons, value-cons, value_𝟎 x n) (simp ring)

  value-⊞ : (x : F) (n : ℕ) (u v : ℕ → F) → value R x (table n (P.◌⊞◌ R u v)) ≡ value R x (table n u) ⊕ value R x (table n v)
  unfolding P.◌⊞◌
  value-⊞ x zero u v = simp (table-zero, value-nil, ring)
  value-⊞ x (suc n) u v = simp (table-cons, value-cons, value-⊞ x n (λ k. u (suc k)) (λ k. v (suc k)), ring)

  value-· : (x : F) (n : ℕ) (y : F) (u : ℕ → F) → value R x (table n (P.◌·◌ R y u)) ≡ y ⊗ value R x (table n u)
  unfolding P.◌·◌
  value-· x zero y u = simp (table-zero, value-nil, ring)
  value-· x (suc n) y u = simp (table-cons, value-cons, value-· x n y (λ k. u (suc k)), ring)

  -- the last coefficient apart
  value_last : (x : F) (n : ℕ) (u : ℕ → F) → value R x (table (suc n) u) ≡ value R x (table n u) ⊕ pow R x n ⊗ u n
  value_last x zero u = rw (table-cons 0 u, table-zero, table-zero, value-cons, value-nil, pow-zero) (simp ring)
  value_last x (suc n) u = rw (table-cons (suc n) u, table-cons n u, value-cons, value-cons, value_last x n (λ k. u (suc k)), pow-suc) (simp ring)

  pub value-padded : (x : F) (n : ℕ) (a : List F) → length a ≤ n → value R x (padded R n a) ≡ value R x a
  value-padded x zero [] h = rw table-zero
  value-padded x (suc n) [] h = rw (table-cons, value-cons, value-padded x n [] zero-le, value-nil) (simp ring)
  value-padded x zero (c ∷ a) h = absurd (not-suc-le-zero h)
  value-padded x (suc n) (c ∷ a) h = rw (table-cons, value-cons, value-cons, value-padded x n a (le_of_suc-le-suc h))

  -- ---- products

  module _ (p : ℕ) (r : List F) (fits : length r ≤ suc p) (x : F) (root : Root R (suc p) r x) where
    value_shifted : (u : ℕ → F) → value R x (table (suc p) (P.shifted R p r u)) ≡ x ⊗ value R x (table p u)
    unfolding P.shifted
    value_shifted u = rw (table-cons, value-cons, table_same p _ u (λ k h. go (ltb k p) (lt→ltb k p h) (u k))) (simp ring)
      where
        go : (b : Bool) → T b → (c : F) → cond b c 𝟘 ≡ c
        go true t c = refl
        go false t c = absurd t

    value-times_x : (u : ℕ → F) → value R x (table (suc p) (P.times_x R p r u)) ≡ x ⊗ value R x (table (suc p) u)
    unfolding P.times_x P.◌⊞◌ P.◌·◌
    value-times_x u =
        value-⊞ x (suc p) (P.shifted R p r u) (P.◌·◌ R (u p) (coefficient R r))
        ∙ ap₂ (λ (s t : F). s ⊕ t) (value_shifted u) (value-· x (suc p) (u p) (coefficient R r)
        ∙ ap (λ (s : F). u p ⊗ s) (value-padded x (suc p) r fits ∙ root))
        ∙ sym (ap (λ (s : F). x ⊗ s) (value_last x p u) ∙ simp (pow-suc, ring))

    value-act : (a : List F) (u : ℕ → F) → value R x (table (suc p) (P.act R (P.times_x R p r) a u)) ≡ value R x a ⊗ value R x (table (suc p) u)
    unfolding P.act
    value-act [] u = value_𝟎 x (suc p) ∙ simp (value-nil, ring)
    value-act (c ∷ a) u =
        value-⊞ x (suc p) _ _ ∙ ap₂ (λ (s t : F). s ⊕ t) (value-· x (suc p) c u) (value-times_x _ ∙ ap (λ (s : F). x ⊗ s) (value-act a u))
        ∙ simp (value-cons, ring)

    pub value-product : (a b : List F) → length b ≤ suc p → value R x (product R p r a b) ≡ value R x a ⊗ value R x b
    unfolding P.product
    value-product a b h = value-act a (coefficient R b) ∙ ap (λ (s : F). value R x a ⊗ s) (value-padded x (suc p) b h)

  pub value-one : (x : F) (p : ℕ) → value R x (padded R (suc p) (𝟙 ∷ [])) ≡ 𝟙
  value-one x p = value-padded x (suc p) (𝟙 ∷ []) (suc-le-suc zero-le) ∙ value-constant x 𝟙

  -- ---- lists of values

  pub all_append : (S : F → Type 0) (v w : List F) → All R S v → All R S w → All R S (v ++ w)
  all_append S [] w f g = g
  all_append S (x ∷ v) w f g = (f.0, all_append S v w f.1 g)

  pub all_under : (S S' : F → Type 0) → ((x : F) → S x → S' x) → (v : List F) → All R S v → All R S' v
  all_under S S' f [] g = tt
  all_under S S' f (x ∷ v) g = (f x g.0, all_under S S' f v g.1)

  pub values_same : (S : F → Type 0) (v : List F) → All R S v → (a b : List F) → ((x : F) → S x → value R x a ≡ value R x b)
      → values R v a ≡ values R v b
  values_same S [] g a b f = refl
  values_same S (x ∷ v) g a b f = cons (f x g.0) (values_same S v g.1 a b f)

  pub values-scaled : (v : List F) (k : F) (a : List F) → values R v (scaled R k a) ≡ scaled R k (values R v a)
  values-scaled [] k a = refl
  values-scaled (x ∷ v) k a = cons (value-scaled x k a) (values-scaled v k a)

  pub values-product : (p : ℕ) (r : List F) → length r ≤ suc p → (v : List F) → All R (Root R (suc p) r) v → (a b : List F) → length b ≤ suc p
      → values R v (product R p r a b) ≡ pointwise R (values R v a) (values R v b)
  unfolding zip_with
  values-product p r fits [] g a b h = refl
  values-product p r fits (x ∷ v) g a b h = cons (value-product p r fits x g.0 a b h) (values-product p r fits v g.1 a b h)

  pub values_one : (p : ℕ) (v : List F) → values R v (padded R (suc p) (𝟙 ∷ [])) ≡ replicate (length v) 𝟙
  values_one p [] = refl
  values_one p (x ∷ v) = cons (value-one x p) (values_one p v)

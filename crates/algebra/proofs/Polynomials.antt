-- R[X]/(X^n - r) is a commutative ring, for every rule r. All follows from "times X" being linear.
use mathlib.Core.Path.{◌≡◌, refl, sym, ap, ap₂, ◌∙◌, fun_ext}
use mathlib.Core.Bool.{Bool, true, false, not, cond}
use mathlib.Core.HLevel.{Σ_prop_path}
use mathlib.Core.List.{List, [], ◌∷◌}
use mathlib.Core.Logic.{◌≢◌}
use Prim.Native.Nat.{ℕ, zero, suc, ◌≤◌, ◌<◌, zero-le, suc-le-suc}
use native.Mathlib.Nat.{le_of_suc-le-suc, le_refl, le_of_eq, not-suc-le-zero, ℕ_set}
use native.Mathlib.Decide.{dec_lt}
use native.Mathlib.Omega.{arith}
use lib.Dec.{T, ltb, ltb→lt, nltb→le, eqb, eqb→eq, eqb_refl, not_T}
use lib.ListN.{length, get_or, get_or-eq_default}
use Rattle.lists.specs.Table.{table}
use Rattle.lists.proofs.Tables.{length-table, get_or-table, table-get_or}
use Rattle.algebra.specs.Ring.{CommRing, sum}
use Rattle.algebra.specs.Polynomials.{coefficient, padded, Polynomial}
use Rattle.algebra.specs.Polynomials as P
use Rattle.algebra.proofs.Ring.{ring, sum_same}
use Rattle.algebra.proofs.Ring as L

module _ {F : Type 0} (R : CommRing F) where
  infixl 65 ◌⊕◌
  infixl 70 ◌⊗◌
  infixl 55 ◌⊞◌
  infixl 60 ◌·◌
  open R use {◌⊕◌, ◌⊗◌, neg, 𝟘, 𝟙}

  abbrev ◌⊞◌ : (ℕ → F) → (ℕ → F) → ℕ → F
  ◌⊞◌ = P.◌⊞◌ R

  abbrev ◌·◌ : F → (ℕ → F) → ℕ → F
  ◌·◌ = P.◌·◌ R

  abbrev 𝟎 : ℕ → F
  𝟎 = P.𝟎 R

  -- ---- sequences are a module over R

  ⊞_assoc : (u v w : ℕ → F) → u ⊞ v ⊞ w ≡ u ⊞ (v ⊞ w)
  unfolding P.◌⊞◌
  ⊞_assoc u v w = fun_ext λ k. simp ring

  ⊞_comm : (u v : ℕ → F) → u ⊞ v ≡ v ⊞ u
  unfolding P.◌⊞◌
  ⊞_comm u v = fun_ext λ k. simp ring

  ⊞-left_comm : (u v w : ℕ → F) → u ⊞ (v ⊞ w) ≡ v ⊞ (u ⊞ w)
  ⊞-left_comm u v w = simp (← ⊞_assoc, ⊞_comm u v)

  ⊞-zero : (u : ℕ → F) → u ⊞ 𝟎 ≡ u
  unfolding P.◌⊞◌ P.𝟎
  ⊞-zero u = fun_ext λ k. simp ring

  ⊞-neg : (u : ℕ → F) → u ⊞ (λ k. neg (u k)) ≡ 𝟎
  unfolding P.◌⊞◌ P.𝟎
  ⊞-neg u = fun_ext λ k. simp ring

  ·-⊞ : (x : F) (u v : ℕ → F) → x · (u ⊞ v) ≡ x · u ⊞ x · v
  unfolding P.◌⊞◌ P.◌·◌
  ·-⊞ x u v = fun_ext λ k. simp ring

  ·-zero : (x : F) → x · 𝟎 ≡ 𝟎
  unfolding P.◌·◌ P.𝟎
  ·-zero x = fun_ext λ k. simp ring

  zero-· : (u : ℕ → F) → 𝟘 · u ≡ 𝟎
  unfolding P.◌·◌ P.𝟎
  zero-· u = fun_ext λ k. simp ring

  ·_comm : (x y : F) (u : ℕ → F) → x · (y · u) ≡ y · (x · u)
  unfolding P.◌·◌
  ·_comm x y u = fun_ext λ k. simp ring

  ruleset sequences = (⊞_assoc, ⊞_comm, ⊞-left_comm, ⊞-zero, ·-⊞, ·-zero)

  -- ---- the action of polynomials through a linear operator T: polynomials commute with T and with each other

  module _ (T : (ℕ → F) → ℕ → F) (T-⊞ : (u v : ℕ → F) → T (u ⊞ v) ≡ T u ⊞ T v) (T-· : (x : F) (u : ℕ → F) → T (x · u) ≡ x · T u) where
    T-zero : T 𝟎 ≡ 𝟎
    T-zero = ap T (sym (zero-· 𝟎)) ∙ T-· 𝟘 𝟎 ∙ zero-· (T 𝟎)

    act-⊞ : (a : List F) (u v : ℕ → F) → P.act R T a (u ⊞ v) ≡ P.act R T a u ⊞ P.act R T a v
    unfolding P.act
    act-⊞ [] u v = sym (⊞-zero 𝟎)
    act-⊞ (x ∷ a) u v = rw (act-⊞ a u v) (simp (sequences, T-⊞))

    act-· : (a : List F) (x : F) (u : ℕ → F) → P.act R T a (x · u) ≡ x · P.act R T a u
    unfolding P.act
    act-· [] x u = sym (·-zero x)
    act-· (y ∷ a) x u = rw (act-· a x u) (simp (sequences, T-·, ·_comm))

    act-T : (a : List F) (u : ℕ → F) → P.act R T a (T u) ≡ T (P.act R T a u)
    unfolding P.act
    act-T [] u = sym T-zero
    act-T (x ∷ a) u = rw (act-T a u) (simp (T-⊞, T-·))

    act_comm : (a b : List F) (u : ℕ → F) → P.act R T a (P.act R T b u) ≡ P.act R T b (P.act R T a u)
    unfolding P.act
    act_comm [] b u = zero b
      where
        zero : (b : List F) → 𝟎 ≡ P.act R T b 𝟎
        zero [] = refl
        zero (x ∷ b) = sym (rw (← zero b) (simp (sequences, T-zero)))
    act_comm (x ∷ a) b u = rw (act_comm a b u) (simp (act-⊞, act-·, act-T))

  -- ---- sequences that vanish from n on are the lists of n coefficients

  abbrev Vanishes : ℕ → (ℕ → F) → Type 0
  Vanishes n u = (k : ℕ) → n ≤ k → u k ≡ 𝟘

  coefficient-vanishes : (n : ℕ) (l : List F) → length l ≤ n → Vanishes n (coefficient R l)
  coefficient-vanishes n l h k g = get_or-eq_default l 𝟘 (omega arith)

  pub coefficient-table : (n : ℕ) (u : ℕ → F) → Vanishes n u → coefficient R (table n u) ≡ u
  coefficient-table n u f = fun_ext λ k. at k (dec_lt k n)
    where
      at : (k : ℕ) → Dec (k < n) → get_or (table n u) k 𝟘 ≡ u k
      at k (yes h) = get_or-table n u k 𝟘 h
      at k (no h) = get_or-eq_default (table n u) 𝟘 (omega (arith, length-table n u)) ∙ sym (f k (omega arith))

  cond-plus : (b : Bool) (x y : F) → cond b (x ⊕ y) 𝟘 ≡ cond b x 𝟘 ⊕ cond b y 𝟘
  cond-plus true x y = refl
  cond-plus false x y = simp ring

  cond-times : (b : Bool) (x y : F) → cond b (x ⊗ y) 𝟘 ≡ x ⊗ cond b y 𝟘
  cond-times true x y = refl
  cond-times false x y = simp ring

  module _ (p : ℕ) (r : List F) where
    abbrev X· : (ℕ → F) → ℕ → F
    X· = P.times_x R p r

    abbrev act : List F → (ℕ → F) → ℕ → F
    act = P.act R X·

    infixl 70 ◌⊠◌
    abbrev ◌⊠◌ : List F → List F → List F
    ◌⊠◌ = P.product R p r

    X·-⊞ : (u v : ℕ → F) → X· (u ⊞ v) ≡ X· u ⊞ X· v
    unfolding P.times_x P.◌⊞◌ P.shifted
    X·-⊞ u v = fun_ext at
      where
        at : (k : ℕ)
            → P.shifted R p r (λ i. u i ⊕ v i) k ⊕ (u p ⊕ v p) ⊗ get_or r k 𝟘 ≡ (P.shifted R p r u k ⊕ u p ⊗ get_or r k 𝟘) ⊕ (P.shifted R p r v k ⊕ v p ⊗ get_or r k 𝟘)
        at zero = simp ring
        at (suc k) = simp (cond-plus, ring)

    X·-· : (x : F) (u : ℕ → F) → X· (x · u) ≡ x · X· u
    unfolding P.times_x P.◌·◌ P.shifted
    X·-· x u = fun_ext at
      where
        at : (k : ℕ) → P.shifted R p r (λ i. x ⊗ u i) k ⊕ (x ⊗ u p) ⊗ get_or r k 𝟘 ≡ x ⊗ (P.shifted R p r u k ⊕ u p ⊗ get_or r k 𝟘)
        at zero = simp ring
        at (suc k) = simp (cond-times, ring)

    pub length-product : (a b : List F) → length (a ⊠ b) ≡ suc p
    unfolding P.product
    length-product a b = length-table (suc p) (act a (coefficient R b))

    -- the product is the sum of the a_i X^i b
    pub act-sum : (a : List F) (u : ℕ → F) (k : ℕ) → act a u k ≡ sum R (length a) (λ i. coefficient R a i ⊗ P.times_power R p r i u k)
    unfolding sum P.times_power P.act P.◌⊞◌ P.◌·◌ P.𝟎
    act-sum [] u k = refl
    act-sum (x ∷ a) u k = ap (λ (y : F). x ⊗ u k ⊕ y) (
        ap (λ (v : ℕ → F). v k) (sym (act-T X· X·-⊞ X·-· a u)) ∙ act-sum a (X· u) k
        ∙ sum_same R (length a) _ _ (λ i h. ap (λ (v : ℕ → F). coefficient R a i ⊗ v k) (inner i)))
      where
        inner : (i : ℕ) → P.times_power R p r i (X· u) ≡ X· (P.times_power R p r i u)
        inner zero = refl
        inner (suc i) = ap X· (inner i)

    -- times X^i
    pub act-monomial : (m : List F) (i : ℕ) → length m ≡ suc p → i ≤ p → ((j : ℕ) → j ≤ p → coefficient R m j ≡ cond (eqb j i) 𝟙 𝟘)
        → (u : ℕ → F) (k : ℕ) → act m u k ≡ P.times_power R p r i u k
    act-monomial m i hm hi e u k =
        act-sum m u k ∙ ap (λ (n : ℕ). sum R n (λ j. coefficient R m j ⊗ P.times_power R p r j u k)) hm
        ∙ L.sum-single R (suc p) i _ (suc-le-suc hi) rest ∙ ap (λ (x : F). x ⊗ P.times_power R p r i u k) (e i hi ∙ this (eqb i i) (eqb_refl i)) ∙ L.one-times R _
      where
        other : (b : Bool) → T (not b) → cond b 𝟙 𝟘 ≡ 𝟘
        other true t = absurd t
        other false t = refl

        this : (b : Bool) → T b → cond b 𝟙 𝟘 ≡ 𝟙
        this true t = refl
        this false t = absurd t

        rest : (j : ℕ) → j < suc p → j ≢ i → coefficient R m j ⊗ P.times_power R p r j u k ≡ 𝟘
        rest j l d =
            ap (λ (x : F). x ⊗ P.times_power R p r j u k) (e j (le_of_suc-le-suc l) ∙ other (eqb j i) (not_T (eqb j i) (λ t. d (eqb→eq j i t))))
            ∙ L.zero-times R _

    -- where the rule has at most n coefficients
    module _ (fits : length r ≤ suc p) where
      X·-vanishes : (u : ℕ → F) → Vanishes (suc p) (X· u)
      unfolding P.times_x P.shifted
      X·-vanishes u zero h = absurd (not-suc-le-zero h)
      X·-vanishes u (suc k) h = go (ltb k p) (get_or r (suc k) 𝟘) (λ t. omega (arith, ltb→lt k p t)) (get_or-eq_default r 𝟘 {n = suc k} (omega arith))
        where
          go : (b : Bool) (c : F) → (T b → ⊥) → c ≡ 𝟘 → cond b (u k) 𝟘 ⊕ u p ⊗ c ≡ 𝟘
          go true c f e = absurd (f tt)
          go false c f e = rw e (simp ring)

      -- below the top, times X only moves the coefficients
      X·_low : (u : ℕ → F) → Vanishes p u → (k : ℕ) → X· u (suc k) ≡ u k
      unfolding P.times_x P.shifted
      X·_low u f k = go (ltb k p) (u p) (f p (le_refl p)) (λ t. f k (nltb→le k p t))
        where
          go : (b : Bool) (c : F) → c ≡ 𝟘 → (T (not b) → u k ≡ 𝟘) → cond b (u k) 𝟘 ⊕ c ⊗ get_or r (suc k) 𝟘 ≡ u k
          go true c e f = rw e (simp ring)
          go false c e f = rw (e, f tt) (simp ring)

      X·-low₀ : (u : ℕ → F) → Vanishes p u → X· u zero ≡ 𝟘
      unfolding P.times_x P.shifted
      X·-low₀ u f = go (u p) (f p (le_refl p))
        where
          go : (c : F) → c ≡ 𝟘 → 𝟘 ⊕ c ⊗ get_or r zero 𝟘 ≡ 𝟘
          go c e = rw e (simp ring)

      -- a polynomial applied to 1 is itself
      act-one : (l : List F) → length l ≤ suc p → act l (coefficient R (𝟙 ∷ [])) ≡ coefficient R l
      unfolding P.act P.◌⊞◌ P.◌·◌ P.𝟎
      act-one [] h = fun_ext λ k. sym (get_or-eq_default [] 𝟘 {n = k} zero-le)
      act-one (x ∷ l) h = rw (act-one l (omega arith)) (fun_ext at)
        where
          at : (k : ℕ) → x ⊗ get_or (𝟙 ∷ []) k 𝟘 ⊕ X· (coefficient R l) k ≡ get_or (x ∷ l) k 𝟘
          at zero = rw (X·-low₀ (coefficient R l) (coefficient-vanishes p l (le_of_suc-le-suc h))) (simp ring)
          at (suc k) = rw (X·_low (coefficient R l) (coefficient-vanishes p l (le_of_suc-le-suc h)) k) (simp ring)

      act-vanishes : (a : List F) (u : ℕ → F) → Vanishes (suc p) u → Vanishes (suc p) (act a u)
      unfolding P.act P.◌⊞◌ P.◌·◌ P.𝟎
      act-vanishes [] u f k h = refl
      act-vanishes (x ∷ a) u f k h = go (u k) (X· (act a u) k) (f k h) (X·-vanishes (act a u) k h)
        where
          go : (y z : F) → y ≡ 𝟘 → z ≡ 𝟘 → x ⊗ y ⊕ z ≡ 𝟘
          go y z e e' = rw (e, e') (simp ring)

      pub coefficient-product : (a b : List F) → length b ≤ suc p → coefficient R (a ⊠ b) ≡ act a (coefficient R b)
      unfolding P.product
      coefficient-product a b h =
          coefficient-table (suc p) (act a (coefficient R b)) (act-vanishes a (coefficient R b) (coefficient-vanishes (suc p) b h))

      act-swap : (a b : List F) → length a ≤ suc p → length b ≤ suc p → act a (coefficient R b) ≡ act b (coefficient R a)
      act-swap a b ha hb = rw (← act-one b hb, ← act-one a ha) (act_comm X· X·-⊞ X·-· a b (coefficient R (𝟙 ∷ [])))

      pub product_comm : (a b : List F) → length a ≤ suc p → length b ≤ suc p → a ⊠ b ≡ b ⊠ a
      unfolding P.product
      product_comm a b ha hb = ap (table (suc p)) (act-swap a b ha hb)

      pub product_assoc : (a b c : List F) → length a ≤ suc p → length b ≤ suc p → length c ≤ suc p → a ⊠ b ⊠ c ≡ a ⊠ (b ⊠ c)
      unfolding P.product
      product_assoc a b c ha hb hc = ap (table (suc p)) (
          act-swap (a ⊠ b) c (le_of_eq (length-product a b)) hc
          ∙ ap (act c) (coefficient-product a b hb)
          ∙ act_comm X· X·-⊞ X·-· c a (coefficient R b)
          ∙ ap (act a) (act-swap c b hc hb ∙ sym (coefficient-product b c hc)))

      pub product-one : (a : List F) → length a ≡ suc p → a ⊠ (𝟙 ∷ []) ≡ a
      unfolding P.product
      product-one a h = ap (table (suc p)) (act-one a (le_of_eq h)) ∙ table-get_or (suc p) a 𝟘 h

      -- times a constant
      pub product-constant : (c : F) (a : List F) → length a ≡ suc p → padded R (suc p) (c ∷ []) ⊠ a ≡ table (suc p) (λ k. c ⊗ coefficient R a k)
      unfolding P.product P.◌·◌
      product-constant c a h =
          product_comm (padded R (suc p) (c ∷ [])) a (le_of_eq (length-table (suc p) _)) (le_of_eq h)
          ∙ ap (λ u. table (suc p) (act a u)) (coefficient-table (suc p) _ (coefficient-vanishes (suc p) (c ∷ []) (suc-le-suc zero-le)) ∙ multiple)
          ∙ ap (table (suc p)) (act-· X· X·-⊞ X·-· a c (coefficient R (𝟙 ∷ [])) ∙ ap (λ u. c · u) (act-one a (le_of_eq h)))
        where
          at : (k : ℕ) → coefficient R (c ∷ []) k ≡ c ⊗ coefficient R (𝟙 ∷ []) k
          at zero = simp ring
          at (suc k) = simp ring

          multiple : coefficient R (c ∷ []) ≡ c · coefficient R (𝟙 ∷ [])
          multiple = unfold P.◌·◌ in fun_ext at

      -- ---- the ring, on lists of n coefficients

      abbrev Poly : Type 0
      Poly = Polynomial R p

      pub polynomial-same : (x y : Poly) → x.0 ≡ y.0 → x ≡ y
      polynomial-same x y e = Σ_prop_path (λ l. ℕ_set _ _) e

      make : (ℕ → F) → Poly
      make u = (table (suc p) u, length-table (suc p) u)

      make-coefficients : (x : Poly) → make (coefficient R x.0) ≡ x
      unfolding make
      make-coefficients x = polynomial-same _ _ (table-get_or (suc p) x.0 𝟘 x.1)

      vanishes : (x : Poly) → Vanishes (suc p) (coefficient R x.0)
      vanishes x = coefficient-vanishes (suc p) x.0 (le_of_eq x.1)

      coefficient_make : (u : ℕ → F) → Vanishes (suc p) u → coefficient R (make u).0 ≡ u
      unfolding make
      coefficient_make u f = coefficient-table (suc p) u f

      plus : Poly → Poly → Poly
      plus x y = make (coefficient R x.0 ⊞ coefficient R y.0)

      times : Poly → Poly → Poly
      times x y = (x.0 ⊠ y.0, length-product x.0 y.0)

      opposite : Poly → Poly
      opposite x = make (λ k. neg (coefficient R x.0 k))

      coefficients-plus : (x y : Poly) → coefficient R (plus x y).0 ≡ coefficient R x.0 ⊞ coefficient R y.0
      unfolding plus P.◌⊞◌
      coefficients-plus x y = coefficient_make _ (λ k h. go _ _ (vanishes x k h) (vanishes y k h))
        where
          go : (y z : F) → y ≡ 𝟘 → z ≡ 𝟘 → y ⊕ z ≡ 𝟘
          go y z e e' = rw (e, e') (simp ring)

      coefficients-opposite : (x : Poly) → coefficient R (opposite x).0 ≡ (λ k. neg (coefficient R x.0 k))
      unfolding opposite
      coefficients-opposite x = coefficient_make _ (λ k h. ap neg (vanishes x k h) ∙ L.neg-zero R)

      times-plus : (x y z : Poly) → times x (plus y z) ≡ plus (times x y) (times x z)
      unfolding times plus make P.product
      times-plus x y z = polynomial-same _ _ (ap (table (suc p)) (
          ap (act x.0) (coefficients-plus y z) ∙ act-⊞ X· X·-⊞ X·-· x.0 (coefficient R y.0) (coefficient R z.0)
          ∙ ap₂ (λ u v. u ⊞ v) (sym (coefficient-product x.0 y.0 (le_of_eq y.1))) (sym (coefficient-product x.0 z.0 (le_of_eq z.1)))))

      times-one : (x : Poly) → times x (make (coefficient R (𝟙 ∷ []))) ≡ x
      unfolding times make P.product
      times-one x = polynomial-same _ _ (
          ap (λ u. table (suc p) (act x.0 u)) (coefficient_make (coefficient R (𝟙 ∷ [])) (coefficient-vanishes (suc p) (𝟙 ∷ []) (suc-le-suc zero-le)))
          ∙ product-one x.0 x.1)

      -- It stands here and not in specs/, since the record holds the proofs of the laws; its operations are in specs/, as the
      -- equations below say.
      pub polynomials : CommRing Poly
      unfolding plus times make opposite
      polynomials = record {
        ◌⊕◌ = plus;
        ◌⊗◌ = times;
        neg = opposite;
        𝟘 = make 𝟎;
        𝟙 = make (coefficient R (𝟙 ∷ []));
        plus_assoc =
            λ a b c. ap make (ap (λ u. u ⊞ coefficient R c.0) (coefficients-plus a b) ∙ ⊞_assoc _ _ _
            ∙ sym (ap (λ u. coefficient R a.0 ⊞ u) (coefficients-plus b c)));
        plus_comm = λ a b. ap make (⊞_comm _ _);
        plus-zero = λ a. ap (λ u. make (coefficient R a.0 ⊞ u)) (coefficient_make 𝟎 zero-vanishes) ∙ ap make (⊞-zero _) ∙ make-coefficients a;
        plus-neg = λ a. ap (λ u. make (coefficient R a.0 ⊞ u)) (coefficients-opposite a) ∙ ap make (⊞-neg (coefficient R a.0));
        times_assoc = λ a b c. polynomial-same _ _ (product_assoc a.0 b.0 c.0 (le_of_eq a.1) (le_of_eq b.1) (le_of_eq c.1));
        times_comm = λ a b. polynomial-same _ _ (product_comm a.0 b.0 (le_of_eq a.1) (le_of_eq b.1));
        times-one = times-one;
        times-plus = times-plus;
      }
        where
          zero-vanishes : Vanishes (suc p) 𝟎
          zero-vanishes = unfold P.𝟎 in λ k h. refl

      -- its operations, as lists
      pub plus-list : (x y : Poly) → (CommRing.◌⊕◌ polynomials x y).0 ≡ P.plus R (suc p) x.0 y.0
      unfolding polynomials plus make P.◌⊞◌ P.plus
      plus-list x y = refl

      pub neg-list : (x : Poly) → (CommRing.neg polynomials x).0 ≡ P.negate R (suc p) x.0
      unfolding polynomials make opposite P.negate
      neg-list x = refl

      pub times-list : (x y : Poly) → (CommRing.◌⊗◌ polynomials x y).0 ≡ x.0 ⊠ y.0
      unfolding polynomials times
      times-list x y = refl

      pub zero-list : (CommRing.𝟘 polynomials).0 ≡ padded R (suc p) []
      unfolding polynomials make P.𝟎
      zero-list = refl

      pub one_list : (CommRing.𝟙 polynomials).0 ≡ padded R (suc p) (𝟙 ∷ [])
      unfolding polynomials make
      one_list = refl

-- The tree that halves is sound; its points where it goes down to single coefficients; the ring with X^n = - 1, n a power of two.
use mathlib.Core.Path.{◌≡◌, refl, sym, ap, ap₂, ◌∙◌, subst}
use mathlib.Core.List.{List, [], ◌∷◌, ◌++◌, map}
use Prim.Native.Nat.{ℕ, zero, suc, ◌+◌, ◌-◌, ◌*◌, ◌/◌, ◌%◌, ◌^◌, ◌≤◌, ◌<◌, zero-le, suc-le-suc}
use native.Mathlib.Nat.{mul-one, mul-add, add-mul, two-pow-succ, mod-eq_of_lt, mod-eq-sub-mod, div-eq_of_lt, div-eq-sub-div}
use native.Mathlib.Decide.{dec_lt}
use native.Mathlib.Omega.{arith}
use lib.ListN.{length, get_or, length-append, length-map, get_or-append}
use lib.Pow.{pow_pos}
use lib.Seq.{get_or-append-add}
use Rattle.lists.proofs.Maps.{cons, map-append, get_d_map}
use Rattle.algebra.specs.Ring.{CommRing, pow}
use Rattle.algebra.specs.Evaluation.{value, values, Root, scaled}
use Rattle.algebra.specs.Transform.{Tree, points, Sound, IsSplit, Transform, forward}
use Rattle.algebra.specs.Polynomials.{negacyclic}
use Rattle.algebra.specs.Halving.{halves, halving, point, exponents, reversed}
use Rattle.algebra.proofs.Ring.{ring, pow-add, pow-suc, pow-zero, pow-one}
use Rattle.algebra.proofs.Ring as L
use Rattle.algebra.proofs.Evaluation as E
use Rattle.algebra.proofs.Transform as T

-- n 2^(d + 1) is twice n 2^d
pub double : (n d : ℕ) → n * 2 ^ suc d ≡ n * 2 ^ d + n * 2 ^ d
double n d = ap (λ (k : ℕ). n * k) (two-pow-succ d) ∙ mul-add n (2 ^ d) (2 ^ d)

doubled : (m n d : ℕ) → m * (n * 2 ^ suc d) ≡ m * (n * 2 ^ d) + m * (n * 2 ^ d)
doubled m n d = ap (λ (k : ℕ). m * k) (double n d) ∙ mul-add m (n * 2 ^ d) (n * 2 ^ d)

-- ---- the order of the points

pub length-exponents : (t d c : ℕ) → length (exponents t d c) ≡ 2 ^ d
unfolding exponents
length-exponents t zero c = refl
length-exponents t (suc d) c =
    length-append (exponents t d (c / 2)) (exponents t d (c / 2 + t))
    ∙ ap₂ ◌+◌ (length-exponents t d (c / 2)) (length-exponents t d (c / 2 + t)) ∙ sym (two-pow-succ d)

pub exponents_entry : (t d c e s k : ℕ) → c ≡ e * 2 ^ d → s * 2 ^ d ≡ t + t → k < 2 ^ d → get_or (exponents t d c) k 0 ≡ e + s * reversed d k
unfolding exponents reversed
exponents_entry t zero c e s zero hc hs l = hc ∙ omega arith
exponents_entry t zero c e s (suc k) hc hs l = absurd (omega arith)
exponents_entry t (suc d) c e s k hc hs l =
    pick (exponents_entry t d (c / 2) e (s + s) k half step')
    (exponents_entry t d (c / 2 + t) (e + s) (s + s) (k - 2 ^ d) second step') (dec_lt k (2 ^ d))
  where
    half : c / 2 ≡ e * 2 ^ d
    half = omega (arith, ap (λ (m : ℕ). e * m) (two-pow-succ d), mul-add e (2 ^ d) (2 ^ d))

    step : s * 2 ^ d ≡ t
    step = omega (arith, ap (λ (m : ℕ). s * m) (two-pow-succ d), mul-add s (2 ^ d) (2 ^ d))

    step' : (s + s) * 2 ^ d ≡ t + t
    step' = add-mul s s (2 ^ d) ∙ ap₂ ◌+◌ step step

    second : c / 2 + t ≡ (e + s) * 2 ^ d
    second = ap₂ ◌+◌ half (sym step) ∙ sym (add-mul e s (2 ^ d))

    pick : (k < 2 ^ d → get_or (exponents t d (c / 2)) k 0 ≡ e + (s + s) * reversed d k)
        → (k - 2 ^ d < 2 ^ d → get_or (exponents t d (c / 2 + t)) (k - 2 ^ d) 0 ≡ e + s + (s + s) * reversed d (k - 2 ^ d))
        → Dec (k < 2 ^ d) → get_or (exponents t d (c / 2) ++ exponents t d (c / 2 + t)) k 0 ≡ e + s * (2 * reversed d (k % 2 ^ d) + k / 2 ^ d)
    pick low high (yes h) =
        get_or-append (exponents t d (c / 2)) (exponents t d (c / 2 + t)) 0 k (rw length-exponents h) ∙ low h
        ∙ rw (mod-eq_of_lt h, div-eq_of_lt h) (omega arith)
    pick low high (no h) =
        let j : ℕ = k - 2 ^ d in
        let small : j < 2 ^ d = omega (arith, two-pow-succ d) in
        let place : k ≡ length (exponents t d (c / 2)) + j = omega (arith, length-exponents t d (c / 2)) in
        let rest : k % 2 ^ d ≡ j = mod-eq-sub-mod (omega arith) ∙ mod-eq_of_lt small in
        let first : k / 2 ^ d ≡ 1 = div-eq-sub-div (pow_pos d) (omega arith) ∙ ap (λ (m : ℕ). m + 1) (div-eq_of_lt small) in
        ap (λ (m : ℕ). get_or (exponents t d (c / 2) ++ exponents t d (c / 2 + t)) m 0) place
        ∙ get_or-append-add (exponents t d (c / 2)) (exponents t d (c / 2 + t)) j 0 ∙ high small
        ∙ rw (rest, first) (omega arith)

-- ---- the tree

module _ {F : Type 0} (R : CommRing F) (ψ : F) where
  infixl 65 ◌⊕◌
  infixl 70 ◌⊗◌
  open R use {◌⊕◌, ◌⊗◌, neg, 𝟘, 𝟙}

  module _ (t : ℕ) (root : pow R ψ t ≡ neg 𝟙) where
    -- ψ^e and ψ^(t - e) are inverse to each other but for the sign
    opposite : (e : ℕ) → e ≤ t → pow R ψ (t - e) ⊗ pow R ψ e ≡ neg 𝟙
    opposite e h = sym (pow-add R ψ (t - e) e) ∙ ap (pow R ψ) (omega arith) ∙ root

    pow-plus : (e : ℕ) → pow R ψ (e + t) ≡ neg (pow R ψ e)
    pow-plus e = rw (pow-add, root) (simp ring)

    -- ---- the split

    -- the entries of the two matrix products, where z = ψ^e and w = ψ^(t - e)
    module _ (z w : F) (e : w ⊗ z ≡ neg 𝟙) where
      two₁ : neg w ⊗ z ⊕ w ⊗ neg z ≡ 𝟙 ⊕ 𝟙
      two₁ = at ∙ ap (λ (s : F). neg s ⊕ neg s) e ∙ simp ring
        where
          at : neg w ⊗ z ⊕ w ⊗ neg z ≡ neg (w ⊗ z) ⊕ neg (w ⊗ z)
          at = simp ring

      two₂ : 𝟙 ⊕ z ⊗ neg w ≡ 𝟙 ⊕ 𝟙
      two₂ = at ∙ ap (λ (s : F). 𝟙 ⊕ neg s) e ∙ simp ring
        where
          at : 𝟙 ⊕ z ⊗ neg w ≡ 𝟙 ⊕ neg (w ⊗ z)
          at = simp ring

      two₃ : 𝟙 ⊕ neg z ⊗ w ≡ 𝟙 ⊕ 𝟙
      two₃ = at ∙ ap (λ (s : F). 𝟙 ⊕ neg s) e ∙ simp ring
        where
          at : 𝟙 ⊕ neg z ⊗ w ≡ 𝟙 ⊕ neg (w ⊗ z)
          at = simp ring

      none₁ : 𝟙 ⊕ z ⊗ w ≡ 𝟘
      none₁ = at ∙ ap (λ (s : F). 𝟙 ⊕ s) e ∙ simp ring
        where
          at : 𝟙 ⊕ z ⊗ w ≡ 𝟙 ⊕ w ⊗ z
          at = simp ring

      none₂ : 𝟙 ⊕ neg z ⊗ neg w ≡ 𝟘
      none₂ = at ∙ ap (λ (s : F). 𝟙 ⊕ s) e ∙ simp ring
        where
          at : 𝟙 ⊕ neg z ⊗ neg w ≡ 𝟙 ⊕ w ⊗ z
          at = simp ring

    pub halves-split : (h e n c : ℕ) → e ≤ t → n ≡ h + h → c ≡ e + e → IsSplit R (halves R ψ t h e) n (λ x. pow R x n ≡ pow R ψ c)
    halves-split h e n c l hn hc = record {
      halves = hn;
      root = λ x f. ap (pow R x) hn ∙ pow-add R x h h ∙ ap₂ (λ (s s' : F). s ⊗ s') f f ∙ square;
      root' = λ x f. ap (pow R x) hn ∙ pow-add R x h h ∙ ap₂ (λ (s s' : F). s ⊗ s') f f ∙ negs (pow R ψ e) ∙ square;
      inverts = record {
        left_11 = refl;
        left_12 = cancel (pow R ψ e);
        left_21 = L.neg-plus-self R _;
        left_22 = two₁ _ _ (opposite e l);
        right_11 = two₂ _ _ (opposite e l);
        right_12 = none₁ _ _ (opposite e l);
        right_21 = none₂ _ _ (opposite e l);
        right_22 = two₃ _ _ (opposite e l);
      };
    }
      where
        square : pow R ψ e ⊗ pow R ψ e ≡ pow R ψ c
        square = sym (pow-add R ψ e e) ∙ ap (pow R ψ) (sym hc)

        negs : (z : F) → neg z ⊗ neg z ≡ z ⊗ z
        negs z = simp ring

        cancel : (z : F) → 𝟙 ⊗ z ⊕ 𝟙 ⊗ neg z ≡ 𝟘
        cancel z = simp ring

    -- ---- the tree, over any sound trees for the blocks

    module _ (n : ℕ) (last : ℕ → Tree R) (k : F)
        (last-sound : (c e : ℕ) → c ≡ e * n → c ≤ t + t → Sound R (last c) n (λ x. pow R x n ≡ pow R ψ c) k) where
      pub halving-sound : (d c e s : ℕ) → c ≡ e * (n * 2 ^ d) → s * (n * 2 ^ d) ≡ t + t → c ≤ t + t
          → Sound R (halving R ψ t n last d c) (n * 2 ^ d) (λ x. pow R x (n * 2 ^ d) ≡ pow R ψ c) (pow R (𝟙 ⊕ 𝟙) d ⊗ k)
      unfolding halving
      halving-sound zero c e s hc hs l =
          rw (pow-zero, L.one-times, mul-one n) (last-sound c e (hc ∙ ap (λ (m : ℕ). e * m) (mul-one n)) l)
      halving-sound (suc d) c e s hc hs l =
          let h = n * 2 ^ d in
          let half : c / 2 ≡ e * h = omega (arith, doubled e n d) in
          let step : s * h ≡ t = omega (arith, doubled s n d) in
          let step' : (s + s) * h ≡ t + t = add-mul s s h ∙ ap₂ ◌+◌ step step in
          record {
            split = halves-split h (c / 2) (n * 2 ^ suc d) c (omega arith) (double n d) (omega (arith, half, doubled e n d));
            rest = pow R (𝟙 ⊕ 𝟙) d ⊗ k;
            factor = ap (λ (x : F). x ⊗ k) (pow-suc R (𝟙 ⊕ 𝟙) d) ∙ L.times_assoc R (𝟙 ⊕ 𝟙) (pow R (𝟙 ⊕ 𝟙) d) k;
            left = halving-sound d (c / 2) e (s + s) half step' (omega arith);
            right = subst (λ (y : F). Sound R (halving R ψ t n last d (c / 2 + t)) h (λ x. pow R x h ≡ y) (pow R (𝟙 ⊕ 𝟙) d ⊗ k)) (pow-plus (c / 2))
                (halving-sound d (c / 2 + t) (e + s) (s + s) (ap₂ ◌+◌ half (sym step) ∙ sym (add-mul e s h)) step' (omega arith));
          }

  -- ---- down to single coefficients

  pub point-sound : (c : ℕ) → Sound R (point R ψ c) 1 (λ x. pow R x 1 ≡ pow R ψ c) 𝟙
  point-sound c = record { count = refl; roots = (pow-one R (pow R ψ c), tt); size = λ w h. h; undo = single; redo = single }
    where
      single : (a : List F) → length a ≡ 1 → values R (pow R ψ c ∷ []) a ≡ scaled R 𝟙 a
      single [] h = absurd (omega arith)
      single (y ∷ []) h = cons (E.value-constant R (pow R ψ c) y ∙ sym (L.one-times R y)) refl
      single (y ∷ y' ∷ a) h = absurd (omega arith)

  pub points-halving : (t d c : ℕ) → points R (halving R ψ t 1 (point R ψ) d c) ≡ map (pow R ψ) (exponents t d c)
  unfolding points halving exponents
  points-halving t zero c = refl
  points-halving t (suc d) c =
      ap₂ (λ (x y : List F). x ++ y) (points-halving t d (c / 2)) (points-halving t d (c / 2 + t))
      ∙ sym (map-append (pow R ψ) (exponents t d (c / 2)) (exponents t d (c / 2 + t)))

  -- ---- X^n = - 1 for n = 2^d, where ψ^n = - 1 and u is the inverse of n

  module _ (p d : ℕ) (size : suc p ≡ 2 ^ d) (root : pow R ψ (2 ^ d) ≡ neg 𝟙) (u : F) (u-is : u ⊗ pow R (𝟙 ⊕ 𝟙) d ≡ 𝟙) where
    abbrev tree : Tree R
    tree = halving R ψ (2 ^ d) 1 (point R ψ) d (2 ^ d)

    tree-sound : Sound R tree (suc p) (Root R (suc p) (negacyclic R)) (pow R (𝟙 ⊕ 𝟙) d ⊗ 𝟙)
    tree-sound =
        T.sound_under R tree (suc p) (λ x. pow R x (suc p) ≡ pow R ψ (2 ^ d)) (Root R (suc p) (negacyclic R)) (pow R (𝟙 ⊕ 𝟙) d ⊗ 𝟙)
        (λ x e. E.value-constant R x (neg 𝟙) ∙ sym root ∙ sym e)
        (subst (λ (n : ℕ). Sound R tree n (λ x. pow R x n ≡ pow R ψ (2 ^ d)) (pow R (𝟙 ⊕ 𝟙) d ⊗ 𝟙)) (omega (arith, size))
        (halving-sound (2 ^ d) root 1 (point R ψ) 𝟙 (λ c e h l. point-sound c) d (2 ^ d) 1 2 (omega arith) (omega arith) (omega arith)))

    -- The record holds proofs, so it stands here; `negacyclic-tree` says what its tree is.
    pub negacyclic_transform : Transform R p (negacyclic R)
    negacyclic_transform = record {
      fits = suc-le-suc zero-le;
      tree = tree;
      factor = pow R (𝟙 ⊕ 𝟙) d ⊗ 𝟙;
      sound = tree-sound;
      unfactor = u;
      unfactor_is = ap (λ (x : F). u ⊗ x) (L.times-one R (pow R (𝟙 ⊕ 𝟙) d)) ∙ u-is;
    }

    pub negacyclic-tree : negacyclic_transform.tree ≡ halving R ψ (2 ^ d) 1 (point R ψ) d (2 ^ d)
    unfolding negacyclic_transform
    negacyclic-tree = refl

    pub negacyclic-unfactor : negacyclic_transform.unfactor ≡ u
    unfolding negacyclic_transform
    negacyclic-unfactor = refl

    -- entry k of the transform is the value at ψ^(2 j + 1), where j is k with its bits reversed
    pub negacyclic_entry : (a : List F) → length a ≡ suc p → (k : ℕ) → k < suc p
        → get_or (forward R negacyclic_transform a) k 𝟘 ≡ value R (pow R ψ (1 + 2 * reversed d k)) a
    negacyclic_entry a h k l =
        let few : k < 2 ^ d = omega arith in
        let all : points R negacyclic_transform.tree ≡ map (pow R ψ) (exponents (2 ^ d) d (2 ^ d)) =
        ap (points R) negacyclic-tree ∙ points-halving (2 ^ d) d (2 ^ d) in
        ap (λ (v : List F). get_or v k 𝟘) (T.forward-values R negacyclic_transform a h ∙ ap (λ (v : List F). values R v a) all)
        ∙ get_d_map (λ x. value R x a) (map (pow R ψ) (exponents (2 ^ d) d (2 ^ d))) k 𝟘 𝟘 (rw (length-map, length-exponents) few)
        ∙ ap (λ (x : F). value R x a) (get_d_map (pow R ψ) (exponents (2 ^ d) d (2 ^ d)) k 0 𝟘 (rw length-exponents few)
        ∙ ap (pow R ψ) (exponents_entry (2 ^ d) d (2 ^ d) 1 2 k (omega arith) (omega arith) few))

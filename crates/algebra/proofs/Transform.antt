-- The transform of a sound tree gives the values at the roots, and interpolation undoes it; so it turns products into pointwise products.
use mathlib.Core.Path.{◌≡◌, refl, sym, ap, ap₂, ◌∙◌}
use mathlib.Core.List.{List, [], ◌∷◌, ◌++◌, zip_with}
use Prim.Native.Nat.{ℕ, suc, ◌+◌}
use native.Mathlib.Nat.{le_of_eq}
use native.Mathlib.Omega.{arith}
use lib.ListN.{length, take, drop, replicate, length-append, length-drop, length-map, take-append-drop}
use lib.Seq.{take_at, drop_at, length-take-le}
use Rattle.lists.proofs.Tables.{length-table}
use Rattle.lists.proofs.Maps.{map-append, map-take, map-drop, map-map, map-id, map_same, length-zip_with, zip_with-left, zip_with-right, map-zip, map-zip_with, zip_with-zip_with}
use Rattle.algebra.specs.Ring.{CommRing, pow}
use Rattle.algebra.specs.Polynomials.{padded, product, coefficient}
use Rattle.algebra.specs.Evaluation.{value, values, Root, All, scaled, pointwise}
use Rattle.algebra.specs.Transform.{Split, Tree, block, branch, remainder, combined, points, evaluate, interpolate}
use Rattle.algebra.specs.Transform.{Inverts, IsSplit, Sound, Transform, forward, backward}
use Rattle.algebra.proofs.Ring.{ring}
use Rattle.algebra.proofs.Ring as L
use Rattle.algebra.proofs.Polynomials.{length-product}
use Rattle.algebra.proofs.Evaluation as E

module _ {F : Type 0} (R : CommRing F) where
  infixl 65 ◌⊕◌
  infixl 70 ◌⊗◌
  open R use {◌⊕◌, ◌⊗◌, neg, 𝟘, 𝟙}

  -- ---- multiples

  pub scaled-scaled : (k j : F) (a : List F) → scaled R k (scaled R j a) ≡ scaled R (k ⊗ j) a
  scaled-scaled k j a = map-map (λ x. j ⊗ x) (λ x. k ⊗ x) a ∙ map_same _ _ (λ x. sym (L.times_assoc R k j x)) a

  pub scaled-one : (a : List F) → scaled R 𝟙 a ≡ a
  scaled-one a = map-id _ (L.one-times R) a

  -- ---- halves

  module _ {n : ℕ} (s : Split R) (a : List F) (size : length a ≡ n) (halves : n ≡ s.half + s.half) where
    length_low : length (take s.half a) ≡ s.half
    length_low = length-take-le s.half a (omega arith)

    length_high : length (drop s.half a) ≡ s.half
    length_high = length-drop s.half a ∙ omega arith

    halves-same : length (take s.half a) ≡ length (drop s.half a)
    halves-same = length_low ∙ sym length_high

    length-remainder : (z : F) → length (remainder R s.half z a) ≡ s.half
    length-remainder z = length-zip_with _ (take s.half a) (drop s.half a) halves-same ∙ length_low

    -- the remainder modulo X^h - z has the same values at the roots of X^h - z
    value-remainder : (x z : F) → pow R x s.half ≡ z → value R x (remainder R s.half z a) ≡ value R x a
    value-remainder x z e =
        E.value-zip R x z (take s.half a) (drop s.half a) halves-same
        ∙ sym (ap (value R x) (sym (take-append-drop s.half a)) ∙ E.value-append R x (take s.half a) (drop s.half a) ∙ rw (length_low, e))

  remainder-scaled : (h : ℕ) (z k : F) (a : List F) → remainder R h z (scaled R k a) ≡ scaled R k (remainder R h z a)
  remainder-scaled h z k a = sym (
      map-zip_with (λ x. k ⊗ x) (λ x y. x ⊕ z ⊗ y) (λ x y. x ⊕ z ⊗ y) inner (take h a) (drop h a)
      ∙ ap₂ (λ (u v : List F). zip_with (λ x y. x ⊕ z ⊗ y) u v) (map-take (λ x. k ⊗ x) h a) (map-drop (λ x. k ⊗ x) h a))
    where
      inner : (x y : F) → k ⊗ (x ⊕ z ⊗ y) ≡ k ⊗ x ⊕ z ⊗ (k ⊗ y)
      inner x y = simp ring

  -- ---- evaluation gives the values at the points

  pub length-points : (P : Tree R) (n : ℕ) (S : F → Type 0) (k : F) → Sound R P n S k → length (points R P) ≡ n
  unfolding points
  length-points (block v f) n S k g = g.count
  length-points (branch s P Q) n S k g =
      length-append (points R P) (points R Q)
      ∙ ap₂ ◌+◌ (length-points P s.half _ g.rest g.left) (length-points Q s.half _ g.rest g.right) ∙ sym g.split.halves

  pub points-roots : (P : Tree R) (n : ℕ) (S : F → Type 0) (k : F) → Sound R P n S k → All R S (points R P)
  unfolding points
  points-roots (block v f) n S k g = g.roots
  points-roots (branch s P Q) n S k g =
      E.all_append R S (points R P) (points R Q)
      (E.all_under R (λ x. pow R x s.half ≡ s.z) S g.split.root (points R P) (points-roots P s.half _ g.rest g.left))
      (E.all_under R (λ x. pow R x s.half ≡ s.z') S g.split.root' (points R Q) (points-roots Q s.half _ g.rest g.right))

  pub evaluate-values : (P : Tree R) (n : ℕ) (S : F → Type 0) (k : F) → Sound R P n S k
      → (a : List F) → length a ≡ n → evaluate R P a ≡ values R (points R P) a
  unfolding evaluate points
  evaluate-values (block v f) n S k g a h = refl
  evaluate-values (branch s P Q) n S k g a h =
      let u = remainder R s.half s.z a in
      let v = remainder R s.half s.z' a in
      let roots = points-roots P s.half _ g.rest g.left in
      let roots' = points-roots Q s.half _ g.rest g.right in
      ap₂ (λ (x y : List F). x ++ y)
      (evaluate-values P s.half _ g.rest g.left u (length-remainder s a h g.split.halves s.z)
      ∙ E.values_same R _ (points R P) roots u a (λ x e. value-remainder s a h g.split.halves x s.z e))
      (evaluate-values Q s.half _ g.rest g.right v (length-remainder s a h g.split.halves s.z')
      ∙ E.values_same R _ (points R Q) roots' v a (λ x e. value-remainder s a h g.split.halves x s.z' e))
      ∙ sym (map-append (λ x. value R x a) (points R P) (points R Q))

  pub length-evaluate : (P : Tree R) (n : ℕ) (S : F → Type 0) (k : F) → Sound R P n S k
      → (a : List F) → length a ≡ n → length (evaluate R P a) ≡ n
  length-evaluate P n S k g a h = ap length (evaluate-values P n S k g a h) ∙ length-map (points R P) _ ∙ length-points P n S k g

  -- ---- there and back

  -- α u + β v of the two remainders, each times j, is c j lo + d j hi
  module _ (α β z z' j : F) (lo hi : List F) (same : length lo ≡ length hi) where
    at : (x y : F) → α ⊗ (j ⊗ (x ⊕ z ⊗ y)) ⊕ β ⊗ (j ⊗ (x ⊕ z' ⊗ y)) ≡ (α ⊕ β) ⊗ j ⊗ x ⊕ (α ⊗ z ⊕ β ⊗ z') ⊗ (j ⊗ y)
    at x y = simp ring

    merged : combined R α β (scaled R j (zip_with (λ x y. x ⊕ z ⊗ y) lo hi)) (scaled R j (zip_with (λ x y. x ⊕ z' ⊗ y) lo hi))
        ≡ zip_with (λ x y. α ⊗ (j ⊗ (x ⊕ z ⊗ y)) ⊕ β ⊗ (j ⊗ (x ⊕ z' ⊗ y))) lo hi
    merged =
        ap₂ (combined R α β) (map-zip (λ x. j ⊗ x) (λ x y. x ⊕ z ⊗ y) lo hi) (map-zip (λ x. j ⊗ x) (λ x y. x ⊕ z' ⊗ y) lo hi)
        ∙ zip_with-zip_with (λ x y. α ⊗ x ⊕ β ⊗ y) (λ x y. j ⊗ (x ⊕ z ⊗ y)) (λ x y. j ⊗ (x ⊕ z' ⊗ y)) lo hi

    undo_low : (m : F) → α ⊕ β ≡ m → α ⊗ z ⊕ β ⊗ z' ≡ 𝟘
        → combined R α β (scaled R j (zip_with (λ x y. x ⊕ z ⊗ y) lo hi)) (scaled R j (zip_with (λ x y. x ⊕ z' ⊗ y) lo hi)) ≡ scaled R (m ⊗ j) lo
    undo_low m e f = merged ∙ zip_with-left _ (λ x. m ⊗ j ⊗ x) entry lo hi same
      where
        entry : (x y : F) → α ⊗ (j ⊗ (x ⊕ z ⊗ y)) ⊕ β ⊗ (j ⊗ (x ⊕ z' ⊗ y)) ≡ m ⊗ j ⊗ x
        entry x y = at x y ∙ ap₂ (λ (c d : F). c ⊗ j ⊗ x ⊕ d ⊗ (j ⊗ y)) e f ∙ simp ring

    undo_high : (m : F) → α ⊕ β ≡ 𝟘 → α ⊗ z ⊕ β ⊗ z' ≡ m
        → combined R α β (scaled R j (zip_with (λ x y. x ⊕ z ⊗ y) lo hi)) (scaled R j (zip_with (λ x y. x ⊕ z' ⊗ y) lo hi)) ≡ scaled R (m ⊗ j) hi
    undo_high m e f = merged ∙ zip_with-right _ (λ y. m ⊗ j ⊗ y) entry lo hi same
      where
        entry : (x y : F) → α ⊗ (j ⊗ (x ⊕ z ⊗ y)) ⊕ β ⊗ (j ⊗ (x ⊕ z' ⊗ y)) ≡ m ⊗ j ⊗ y
        entry x y = at x y ∙ ap₂ (λ (c d : F). c ⊗ j ⊗ x ⊕ d ⊗ (j ⊗ y)) e f ∙ simp ring

  pub interpolate-evaluate : (P : Tree R) (n : ℕ) (S : F → Type 0) (k : F) → Sound R P n S k
      → (a : List F) → length a ≡ n → interpolate R P (evaluate R P a) ≡ scaled R k a
  unfolding evaluate interpolate
  interpolate-evaluate (block v f) n S k g a h = g.undo a h
  interpolate-evaluate (branch s P Q) n S k g a e =
      rw (
        take_at (evaluate R P u) (evaluate R Q v) s.half size,
        drop_at (evaluate R P u) (evaluate R Q v) s.half size,
        interpolate-evaluate P s.half _ g.rest g.left u (length-remainder s a e g.split.halves s.z),
        interpolate-evaluate Q s.half _ g.rest g.right v (length-remainder s a e g.split.halves s.z'),
        undo_low s.α s.β s.z s.z' g.rest (take s.half a) (drop s.half a) same s.m matrix.left_11 matrix.left_12,
        undo_high s.γ s.δ s.z s.z' g.rest (take s.half a) (drop s.half a) same s.m matrix.left_21 matrix.left_22,
        ← map-append (λ x. s.m ⊗ g.rest ⊗ x) (take s.half a) (drop s.half a),
        take-append-drop,
        ← g.factor,
      )
    where
      u : List F
      u = remainder R s.half s.z a

      v : List F
      v = remainder R s.half s.z' a

      size : length (evaluate R P u) ≡ s.half
      size = length-evaluate P s.half _ g.rest g.left u (length-remainder s a e g.split.halves s.z)

      same : length (take s.half a) ≡ length (drop s.half a)
      same = halves-same s a e g.split.halves

      matrix : Inverts R s
      matrix = g.split.inverts

  -- ---- back and there

  pub evaluate-scaled : (P : Tree R) (k : F) (a : List F) → evaluate R P (scaled R k a) ≡ scaled R k (evaluate R P a)
  unfolding evaluate
  evaluate-scaled (block v f) k a = E.values-scaled R v k a
  evaluate-scaled (branch s P Q) k a =
      ap₂ (λ (x y : List F). x ++ y)
      (ap (evaluate R P) (remainder-scaled s.half s.z k a) ∙ evaluate-scaled P k (remainder R s.half s.z a))
      (ap (evaluate R Q) (remainder-scaled s.half s.z' k a) ∙ evaluate-scaled Q k (remainder R s.half s.z' a))
      ∙ sym (map-append (λ x. k ⊗ x) (evaluate R P (remainder R s.half s.z a)) (evaluate R Q (remainder R s.half s.z' a)))

  -- the remainder modulo X^h - z of what came from u and v
  module _ (α β γ δ z : F) (u v : List F) (same : length u ≡ length v) where
    at' : (x y : F) → α ⊗ x ⊕ β ⊗ y ⊕ z ⊗ (γ ⊗ x ⊕ δ ⊗ y) ≡ (α ⊕ z ⊗ γ) ⊗ x ⊕ (β ⊕ z ⊗ δ) ⊗ y
    at' x y = simp ring

    merged' : zip_with (λ x y. x ⊕ z ⊗ y) (combined R α β u v) (combined R γ δ u v) ≡ zip_with (λ x y. α ⊗ x ⊕ β ⊗ y ⊕ z ⊗ (γ ⊗ x ⊕ δ ⊗ y)) u v
    merged' = zip_with-zip_with (λ x y. x ⊕ z ⊗ y) (λ x y. α ⊗ x ⊕ β ⊗ y) (λ x y. γ ⊗ x ⊕ δ ⊗ y) u v

    redo-first : (m : F) → α ⊕ z ⊗ γ ≡ m → β ⊕ z ⊗ δ ≡ 𝟘 → zip_with (λ x y. x ⊕ z ⊗ y) (combined R α β u v) (combined R γ δ u v) ≡ scaled R m u
    redo-first m e f = merged' ∙ zip_with-left _ (λ x. m ⊗ x) entry u v same
      where
        entry : (x y : F) → α ⊗ x ⊕ β ⊗ y ⊕ z ⊗ (γ ⊗ x ⊕ δ ⊗ y) ≡ m ⊗ x
        entry x y = at' x y ∙ ap₂ (λ (c d : F). c ⊗ x ⊕ d ⊗ y) e f ∙ simp ring

    redo-second : (m : F) → α ⊕ z ⊗ γ ≡ 𝟘 → β ⊕ z ⊗ δ ≡ m → zip_with (λ x y. x ⊕ z ⊗ y) (combined R α β u v) (combined R γ δ u v) ≡ scaled R m v
    redo-second m e f = merged' ∙ zip_with-right _ (λ y. m ⊗ y) entry u v same
      where
        entry : (x y : F) → α ⊗ x ⊕ β ⊗ y ⊕ z ⊗ (γ ⊗ x ⊕ δ ⊗ y) ≡ m ⊗ y
        entry x y = at' x y ∙ ap₂ (λ (c d : F). c ⊗ x ⊕ d ⊗ y) e f ∙ simp ring

  pub length-interpolate : (P : Tree R) (n : ℕ) (S : F → Type 0) (k : F) → Sound R P n S k
      → (w : List F) → length w ≡ n → length (interpolate R P w) ≡ n
  unfolding interpolate
  length-interpolate (block v f) n S k g w h = g.size w h
  length-interpolate (branch s P Q) n S k g w e =
      let u = interpolate R P (take s.half w) in
      let v = interpolate R Q (drop s.half w) in
      let hu : length u ≡ s.half = length-interpolate P s.half _ g.rest g.left (take s.half w) (length_low s w e g.split.halves) in
      let hv : length v ≡ s.half = length-interpolate Q s.half _ g.rest g.right (drop s.half w) (length_high s w e g.split.halves) in
      length-append (combined R s.α s.β u v) (combined R s.γ s.δ u v)
      ∙ ap₂ ◌+◌ (length-zip_with _ u v (hu ∙ sym hv) ∙ hu) (length-zip_with _ u v (hu ∙ sym hv) ∙ hu) ∙ sym g.split.halves

  pub evaluate-interpolate : (P : Tree R) (n : ℕ) (S : F → Type 0) (k : F) → Sound R P n S k
      → (w : List F) → length w ≡ n → evaluate R P (interpolate R P w) ≡ scaled R k w
  unfolding evaluate interpolate
  evaluate-interpolate (block v f) n S k g w h = g.redo w h
  evaluate-interpolate (branch s P Q) n S k g w e =
      rw (
        take_at (combined R s.α s.β u v) (combined R s.γ s.δ u v) s.half size,
        drop_at (combined R s.α s.β u v) (combined R s.γ s.δ u v) s.half size,
        redo-first s.α s.β s.γ s.δ s.z u v same s.m g.split.inverts.right_11 g.split.inverts.right_12,
        redo-second s.α s.β s.γ s.δ s.z' u v same s.m g.split.inverts.right_21 g.split.inverts.right_22,
        evaluate-scaled P s.m u,
        evaluate-scaled Q s.m v,
        evaluate-interpolate P s.half _ g.rest g.left (take s.half w) (length_low s w e g.split.halves),
        evaluate-interpolate Q s.half _ g.rest g.right (drop s.half w) (length_high s w e g.split.halves),
        scaled-scaled s.m g.rest (take s.half w),
        scaled-scaled s.m g.rest (drop s.half w),
        ← map-append (λ x. s.m ⊗ g.rest ⊗ x) (take s.half w) (drop s.half w),
        take-append-drop,
        ← g.factor,
      )
    where
      u : List F
      u = interpolate R P (take s.half w)

      v : List F
      v = interpolate R Q (drop s.half w)

      hu : length u ≡ s.half
      hu = length-interpolate P s.half _ g.rest g.left (take s.half w) (length_low s w e g.split.halves)

      hv : length v ≡ s.half
      hv = length-interpolate Q s.half _ g.rest g.right (drop s.half w) (length_high s w e g.split.halves)

      same : length u ≡ length v
      same = hu ∙ sym hv

      size : length (combined R s.α s.β u v) ≡ s.half
      size = length-zip_with _ u v same ∙ hu

  -- a tree for a set of roots is one for every larger set
  pub sound_under : (P : Tree R) (n : ℕ) (S S' : F → Type 0) (k : F) → ((x : F) → S x → S' x) → Sound R P n S k → Sound R P n S' k
  sound_under (block v h) n S S' k f g =
      record { count = g.count; roots = E.all_under R S S' f v g.roots; size = g.size; undo = g.undo; redo = g.redo }
  sound_under (branch s P Q) n S S' k f g = record { split = larger; rest = g.rest; factor = g.factor; left = g.left; right = g.right }
    where
      larger : IsSplit R s n S'
      larger = record {
        halves = g.split.halves;
        root = λ x e. f x (g.split.root x e);
        root' = λ x e. f x (g.split.root' x e);
        inverts = g.split.inverts;
      }

  -- ---- a transform of R[X]/(X^(p + 1) - r)

  module _ {p : ℕ} {r : List F} (T : Transform R p r) where
    abbrev S : F → Type 0
    S = Root R (suc p) r

    pub length-forward : (a : List F) → length a ≡ suc p → length (forward R T a) ≡ suc p
    length-forward a h = length-evaluate T.tree (suc p) S T.factor T.sound a h

    pub length-backward : (v : List F) → length v ≡ suc p → length (backward R T v) ≡ suc p
    length-backward v h = length-map (interpolate R T.tree v) _ ∙ length-interpolate T.tree (suc p) S T.factor T.sound v h

    -- entry by entry, the values at the points
    pub forward-values : (a : List F) → length a ≡ suc p → forward R T a ≡ values R (points R T.tree) a
    forward-values a h = evaluate-values T.tree (suc p) S T.factor T.sound a h

    pub backward-forward : (a : List F) → length a ≡ suc p → backward R T (forward R T a) ≡ a
    backward-forward a h =
        rw (interpolate-evaluate T.tree (suc p) S T.factor T.sound a h, scaled-scaled T.unfactor T.factor a, T.unfactor_is) (scaled-one a)

    pub forward-backward : (v : List F) → length v ≡ suc p → forward R T (backward R T v) ≡ v
    forward-backward v h =
        rw (
          evaluate-scaled T.tree T.unfactor (interpolate R T.tree v),
          evaluate-interpolate T.tree (suc p) S T.factor T.sound v h,
          scaled-scaled T.unfactor T.factor v,
          T.unfactor_is,
        ) (scaled-one v)

    pub forward-product : (a b : List F) → length a ≡ suc p → length b ≡ suc p
        → forward R T (product R p r a b) ≡ pointwise R (forward R T a) (forward R T b)
    forward-product a b ha hb =
        forward-values (product R p r a b) (length-product R p r a b)
        ∙ E.values-product R p r T.fits (points R T.tree) (points-roots T.tree (suc p) S T.factor T.sound) a b (le_of_eq hb)
        ∙ sym (ap₂ (pointwise R) (forward-values a ha) (forward-values b hb))

    -- the product by transform is the product
    pub product_by_transform : (a b : List F) → length a ≡ suc p → length b ≡ suc p
        → backward R T (pointwise R (forward R T a) (forward R T b)) ≡ product R p r a b
    product_by_transform a b ha hb =
        ap (backward R T) (sym (forward-product a b ha hb)) ∙ backward-forward (product R p r a b) (length-product R p r a b)

    pub forward-one : forward R T (padded R (suc p) (𝟙 ∷ [])) ≡ replicate (suc p) 𝟙
    forward-one =
        forward-values (padded R (suc p) (𝟙 ∷ [])) (length-table (suc p) (coefficient R (𝟙 ∷ [])))
        ∙ E.values_one R p (points R T.tree) ∙ ap (λ (n : ℕ). replicate n 𝟙) (length-points T.tree (suc p) S T.factor T.sound)

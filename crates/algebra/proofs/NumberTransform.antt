-- The transform on lists of numbers is the transform of the halving tree on residues; what follows for products, inverses and units.
use mathlib.Core.Path.{◌≡◌, sym, ap, ap₂, ◌∙◌}
use mathlib.Core.List.{List, ◌++◌, zip_with}
use Prim.Native.Nat.{ℕ, zero, suc, ◌+◌, ◌-◌, ◌*◌, ◌/◌, ◌^◌, ◌<◌}
use native.Mathlib.Nat.{mod-lt, one-mul}
use native.Mathlib.Omega.{arith}
use lib.ListN.{length, take, drop, length-append, length-drop}
use lib.Seq.{length-take-le}
use Rattle.lists.proofs.Maps.{map-append, map-take, map-drop, map-zip_with, length-zip_with}
use Rattle.algebra.specs.Ring.{CommRing, pow}
use Rattle.algebra.specs.Residues.{Residue, residue, residues}
use Rattle.algebra.specs.Transform.{Tree, evaluate, interpolate, remainder, combined}
use Rattle.algebra.specs.Halving.{halving}
use Rattle.algebra.specs.Numbers.{add_mod, sub_mod, mul_mod, pow_mod, Below, forward_mod, backward_mod}
use Rattle.algebra.proofs.Ring.{ring}
use Rattle.algebra.proofs.Ring as L
use Rattle.algebra.proofs.Residues.{ℤ/}
use Rattle.algebra.proofs.Halving.{double}
use Rattle.algebra.proofs.Numbers.{of-add_mod, of-sub_mod, of-mul_mod, of-pow_mod, below-append, below-zip_with}

module _ (q : ℕ) (pos : 0 < q) (g t n : ℕ) (blocks : ℕ → Tree (ℤ/ q pos)) where
  abbrev Z : CommRing (Residue q)
  Z = ℤ/ q pos

  abbrev z : ℕ → Residue q
  z = residue q pos

  abbrev zs : List ℕ → List (Residue q)
  zs = residues q pos

  infixl 65 ◌⊕◌
  infixl 70 ◌⊗◌
  open Z use {◌⊕◌, ◌⊗◌, neg, 𝟘, 𝟙}

  abbrev ψ : ℕ → Residue q
  ψ e = pow Z (z g) e

  -- ---- the four operations on a pair of entries

  of-sum : (e x y : ℕ) → z (add_mod q x (mul_mod q (pow_mod q g e) y)) ≡ z x ⊕ ψ e ⊗ z y
  of-sum e x y = of-add_mod q pos x _ ∙ ap (λ (s : Residue q). z x ⊕ s) (of-mul_mod q pos _ y ∙ ap (λ (s : Residue q). s ⊗ z y) (of-pow_mod q pos g e))

  of-difference : (e x y : ℕ) → z (sub_mod q x (mul_mod q (pow_mod q g e) y)) ≡ z x ⊕ neg (ψ e) ⊗ z y
  of-difference e x y =
      of-sub_mod q pos x _
      ∙ ap (λ (s : Residue q). z x ⊕ s) (ap neg (of-mul_mod q pos _ y ∙ ap (λ (s : Residue q). s ⊗ z y) (of-pow_mod q pos g e))
      ∙ sym (L.neg-times Z (ψ e) (z y)))

  of_total : (x y : ℕ) → z (add_mod q x y) ≡ 𝟙 ⊗ z x ⊕ 𝟙 ⊗ z y
  of_total x y = of-add_mod q pos x y ∙ ap₂ (λ (s s' : Residue q). s ⊕ s') (sym (L.one-times Z (z x))) (sym (L.one-times Z (z y)))

  of_apart : (e x y : ℕ) → z (mul_mod q (pow_mod q g e) (sub_mod q y x)) ≡ neg (ψ e) ⊗ z x ⊕ ψ e ⊗ z y
  of_apart e x y = of-mul_mod q pos _ _ ∙ ap₂ (λ (s s' : Residue q). s ⊗ s') (of-pow_mod q pos g e) (of-sub_mod q pos y x) ∙ turn (ψ e) (z x) (z y)
    where
      turn : (c x y : Residue q) → c ⊗ (y ⊕ neg x) ≡ neg c ⊗ x ⊕ c ⊗ y
      turn c x y = simp ring

  -- ---- halves

  module _ (d : ℕ) (a : List ℕ) (size : length a ≡ n * 2 ^ suc d) where
    length_low : length (take (n * 2 ^ d) a) ≡ n * 2 ^ d
    length_low = length-take-le (n * 2 ^ d) a (omega (arith, double n d))

    length_high : length (drop (n * 2 ^ d) a) ≡ n * 2 ^ d
    length_high = length-drop (n * 2 ^ d) a ∙ omega (arith, double n d)

    length_pairs : (f : ℕ → ℕ → ℕ) → length (zip_with f (take (n * 2 ^ d) a) (drop (n * 2 ^ d) a)) ≡ n * 2 ^ d
    length_pairs f = length-zip_with f (take (n * 2 ^ d) a) (drop (n * 2 ^ d) a) (length_low ∙ sym length_high) ∙ length_low

  -- residues of the remainder modulo X^h - c
  pairs : (f : ℕ → ℕ → ℕ) (c : Residue q) → ((x y : ℕ) → z (f x y) ≡ z x ⊕ c ⊗ z y) → (h : ℕ) (a : List ℕ)
      → zs (zip_with f (take h a) (drop h a)) ≡ remainder Z h c (zs a)
  pairs f c e h a =
      map-zip_with z f _ e (take h a) (drop h a) ∙ ap₂ (λ (u v : List (Residue q)). zip_with (λ x y. x ⊕ c ⊗ y) u v) (map-take z h a) (map-drop z h a)

  -- ---- there

  module _ (last : ℕ → List ℕ → List ℕ)
      (last-is : (c : ℕ) (a : List ℕ) → length a ≡ n → (length (last c a) ≡ n) × (zs (last c a) ≡ evaluate Z (blocks c) (zs a))) where
    pub forward_mod_is : (d c : ℕ) (a : List ℕ) → length a ≡ n * 2 ^ d
        → (length (forward_mod q g t n last d c a) ≡ n * 2 ^ d) × (zs (forward_mod q g t n last d c a) ≡ evaluate Z (halving Z (z g) t n blocks d c) (zs a))
    unfolding forward_mod evaluate halving
    forward_mod_is zero c a h = let l = last-is c a (h ∙ omega arith) in (l.0 ∙ omega arith, l.1)
    forward_mod_is (suc d) c a h =
        let m = n * 2 ^ d in
        let lo = zip_with (λ x y. add_mod q x (mul_mod q (pow_mod q g (c / 2)) y)) (take m a) (drop m a) in
        let hi = zip_with (λ x y. sub_mod q x (mul_mod q (pow_mod q g (c / 2)) y)) (take m a) (drop m a) in
        let x = forward_mod_is d (c / 2) lo (length_pairs d a h _) in
        let y = forward_mod_is d (c / 2 + t) hi (length_pairs d a h _) in (
          length-append (forward_mod q g t n last d (c / 2) lo) (forward_mod q g t n last d (c / 2 + t) hi) ∙ ap₂ ◌+◌ x.0 y.0 ∙ sym (double n d),
          map-append z (forward_mod q g t n last d (c / 2) lo) (forward_mod q g t n last d (c / 2 + t) hi)
              ∙ ap₂ (λ (u v : List (Residue q)). u ++ v)
              (x.1 ∙ ap (evaluate Z (halving Z (z g) t n blocks d (c / 2))) (pairs _ (ψ (c / 2)) (of-sum (c / 2)) m a))
              (y.1 ∙ ap (evaluate Z (halving Z (z g) t n blocks d (c / 2 + t))) (pairs _ (neg (ψ (c / 2))) (of-difference (c / 2)) m a)),
        )

  -- ---- back

  module _ (last : ℕ → List ℕ → List ℕ)
      (last-is : (c : ℕ) (v : List ℕ) → length v ≡ n → (length (last c v) ≡ n) × (zs (last c v) ≡ interpolate Z (blocks c) (zs v))) where
    pub backward_mod_is : (d c : ℕ) (v : List ℕ) → length v ≡ n * 2 ^ d
        → (length (backward_mod q g t n last d c v) ≡ n * 2 ^ d) × (zs (backward_mod q g t n last d c v) ≡ interpolate Z (halving Z (z g) t n blocks d c) (zs v))
    unfolding backward_mod interpolate halving
    backward_mod_is zero c v h = let l = last-is c v (h ∙ omega arith) in (l.0 ∙ omega arith, l.1)
    backward_mod_is (suc d) c v h =
        let m = n * 2 ^ d in
        let lo = backward_mod q g t n last d (c / 2) (take m v) in
        let hi = backward_mod q g t n last d (c / 2 + t) (drop m v) in
        let x = backward_mod_is d (c / 2) (take m v) (length_low d v h) in
        let y = backward_mod_is d (c / 2 + t) (drop m v) (length_high d v h) in
        let same : length lo ≡ length hi = x.0 ∙ sym y.0 in
        let fx = x.1 ∙ ap (interpolate Z (halving Z (z g) t n blocks d (c / 2))) (map-take z m v) in
        let fy = y.1 ∙ ap (interpolate Z (halving Z (z g) t n blocks d (c / 2 + t))) (map-drop z m v) in (
          length-append (zip_with (add_mod q) lo hi) (zip_with (λ x y. mul_mod q (pow_mod q g (t - c / 2)) (sub_mod q y x)) lo hi)
              ∙ ap₂ ◌+◌ (length-zip_with _ lo hi same ∙ x.0) (length-zip_with _ lo hi same ∙ x.0) ∙ sym (double n d),
          map-append z (zip_with (add_mod q) lo hi) (zip_with (λ x y. mul_mod q (pow_mod q g (t - c / 2)) (sub_mod q y x)) lo hi)
              ∙ ap₂ (λ (u v : List (Residue q)). u ++ v)
              (map-zip_with z _ _ of_total lo hi ∙ ap₂ (combined Z 𝟙 𝟙) fx fy)
              (map-zip_with z _ _ (of_apart (t - c / 2)) lo hi ∙ ap₂ (combined Z (neg (ψ (t - c / 2))) (ψ (t - c / 2))) fx fy),
        )

-- the entries stay below q
pub forward_mod-below : (q g t n : ℕ) (last : ℕ → List ℕ → List ℕ) → 0 < q → ((c : ℕ) (a : List ℕ) → Below q a → Below q (last c a))
    → (d c : ℕ) (a : List ℕ) → Below q a → Below q (forward_mod q g t n last d c a)
unfolding forward_mod
forward_mod-below q g t n last pos f zero c a h = f c a h
forward_mod-below q g t n last pos f (suc d) c a h =
    let m = n * 2 ^ d in
    let lo = zip_with (λ x y. add_mod q x (mul_mod q (pow_mod q g (c / 2)) y)) (take m a) (drop m a) in
    let hi = zip_with (λ x y. sub_mod q x (mul_mod q (pow_mod q g (c / 2)) y)) (take m a) (drop m a) in
    below-append q (forward_mod q g t n last d (c / 2) lo) (forward_mod q g t n last d (c / 2 + t) hi)
    (forward_mod-below q g t n last pos f d (c / 2) lo (below-zip_with q _ (λ x y. mod-lt _ pos) (take m a) (drop m a)))
    (forward_mod-below q g t n last pos f d (c / 2 + t) hi (below-zip_with q _ (λ x y. mod-lt _ pos) (take m a) (drop m a)))

-- ---- the recursions where n is 1, with 2^d for 1 · 2^d

module _ (q g t : ℕ) (last : ℕ → List ℕ → List ℕ) (d c : ℕ) (a : List ℕ) where
  pub forward_mod-suc : forward_mod q g t 1 last (suc d) c a
      ≡ forward_mod q g t 1 last d (c / 2) (zip_with (λ x y. add_mod q x (mul_mod q (pow_mod q g (c / 2)) y)) (take (2 ^ d) a) (drop (2 ^ d) a))
      ++ forward_mod q g t 1 last d (c / 2 + t) (zip_with (λ x y. sub_mod q x (mul_mod q (pow_mod q g (c / 2)) y)) (take (2 ^ d) a) (drop (2 ^ d) a))
  unfolding forward_mod
  forward_mod-suc = rw (one-mul (2 ^ d))

  pub backward_mod-suc : backward_mod q g t 1 last (suc d) c a
      ≡ zip_with (add_mod q) (backward_mod q g t 1 last d (c / 2) (take (2 ^ d) a)) (backward_mod q g t 1 last d (c / 2 + t) (drop (2 ^ d) a))
      ++ zip_with (λ x y. mul_mod q (pow_mod q g (t - c / 2)) (sub_mod q y x))
      (backward_mod q g t 1 last d (c / 2) (take (2 ^ d) a)) (backward_mod q g t 1 last d (c / 2 + t) (drop (2 ^ d) a))
  unfolding backward_mod
  backward_mod-suc = rw (one-mul (2 ^ d))

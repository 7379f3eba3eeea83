-- The transform back takes a multiple of the values to that multiple of the coefficients.
use mathlib.Core.Path.{◌≡◌, refl, sym, ap, ap₂, ◌∙◌}
use mathlib.Core.List.{List, ◌++◌, map, zip_with}
use Prim.Native.Nat.{ℕ, zero, suc, ◌+◌, ◌-◌, ◌*◌, ◌/◌, ◌%◌, ◌^◌, ◌<◌}
use native.Mathlib.Nat.{mod-mod}
use lib.ListN.{take, drop}
use Rattle.lists.proofs.Maps.{map-append, map-take, map-drop, map-zip_with}
use Rattle.algebra.specs.Residues.{Residue, residue}
use Rattle.algebra.specs.Numbers.{add_mod, sub_mod, mul_mod, pow_mod, backward_mod}
use Rattle.algebra.proofs.Ring.{ring}
use Rattle.algebra.proofs.Residues.{ℤ/, same_of}
use Rattle.algebra.proofs.Numbers.{of-add_mod, of-sub_mod, of-mul_mod}

module _ (q : ℕ) (pos : 0 < q) where
  abbrev z : ℕ → Residue q
  z = residue q pos

  infixl 65 ◌⊕◌
  infixl 70 ◌⊗◌
  open ℤ/ q pos use {◌⊕◌, ◌⊗◌, neg}

  -- numbers modulo q with equal residues are equal
  same : (x y : ℕ) → z (x % q) ≡ z (y % q) → x % q ≡ y % q
  same x y e = sym (mod-mod x q) ∙ same_of q pos (x % q) (y % q) e ∙ mod-mod y q

  mul-add_mod : (u x y : ℕ) → mul_mod q u (add_mod q x y) ≡ add_mod q (mul_mod q u x) (mul_mod q u y)
  mul-add_mod u x y =
      same _ _ (simp (of-mul_mod q pos, of-add_mod q pos) (law (z u) (z x) (z y)))
    where
      law : (u x y : Residue q) → u ⊗ (x ⊕ y) ≡ u ⊗ x ⊕ u ⊗ y
      law u x y = simp ring

  mul-sub_mod : (u c x y : ℕ) → mul_mod q u (mul_mod q c (sub_mod q y x)) ≡ mul_mod q c (sub_mod q (mul_mod q u y) (mul_mod q u x))
  mul-sub_mod u c x y =
      same _ _ (simp (of-mul_mod q pos, of-sub_mod q pos) (law (z u) (z c) (z x) (z y)))
    where
      law : (u c x y : Residue q) → u ⊗ (c ⊗ (y ⊕ neg x)) ≡ c ⊗ (u ⊗ y ⊕ neg (u ⊗ x))
      law u c x y = simp ring

  pub backward-multiple : (g t n u d c : ℕ) (v : List ℕ)
      → backward_mod q g t n (λ c l. l) d c (map (mul_mod q u) v) ≡ map (mul_mod q u) (backward_mod q g t n (λ c l. l) d c v)
  unfolding backward_mod
  backward-multiple g t n u zero c v = refl
  backward-multiple g t n u (suc d) c v =
      let m = n * 2 ^ d in
      let s = mul_mod q u in
      let lo = backward_mod q g t n (λ c l. l) d (c / 2) (take m v) in
      let hi = backward_mod q g t n (λ c l. l) d (c / 2 + t) (drop m v) in
      let apart : ℕ → ℕ → ℕ = λ x y. mul_mod q (pow_mod q g (t - c / 2)) (sub_mod q y x) in
      ap₂ (λ (x y : List ℕ). zip_with (add_mod q) x y ++ zip_with apart x y)
      (ap (backward_mod q g t n (λ c l. l) d (c / 2)) (sym (map-take s m v)) ∙ backward-multiple g t n u d (c / 2) (take m v))
      (ap (backward_mod q g t n (λ c l. l) d (c / 2 + t)) (sym (map-drop s m v)) ∙ backward-multiple g t n u d (c / 2 + t) (drop m v))
      ∙ sym (map-append s (zip_with (add_mod q) lo hi) (zip_with apart lo hi)
      ∙ ap₂ (λ (x y : List ℕ). x ++ y) (map-zip_with s (add_mod q) (add_mod q) (mul-add_mod u) lo hi)
      (map-zip_with s apart apart (λ x y. mul-sub_mod u (pow_mod q g (t - c / 2)) x y) lo hi))

-- Values of polynomials on lists of numbers: those of a + c b are the values of a and c times those of b.
use mathlib.Core.Path.{◌≡◌, sym, ap, ap₂, ◌∙◌}
use mathlib.Core.List.{List, [], ◌∷◌, map, zip_with}
use Prim.Native.Nat.{ℕ, ◌<◌}
use native.Mathlib.Nat.{mod-lt}
use lib.ListN.{length, get_or, length-map}
use Rattle.lists.specs.Table.{table}
use Rattle.lists.proofs.Tables.{map-table, table_same, table-get_or, zip_with-table}
use Rattle.algebra.specs.Ring.{CommRing}
use Rattle.algebra.specs.Residues.{Residue, residue, residues}
use Rattle.algebra.specs.Evaluation.{value}
use Rattle.algebra.specs.Numbers.{add_mod, mul_mod, plus, scale, value_mod}
use Rattle.algebra.proofs.Residues.{ℤ/}
use Rattle.algebra.proofs.Numbers.{of-add_mod, of-mul_mod, of-value_mod, residues_injective}
use Rattle.algebra.proofs.Elements.{scale_at}
use Rattle.algebra.proofs.Evaluation.{value-zip}

module _ (q : ℕ) (pos : 0 < q) where
  abbrev Z : CommRing (Residue q)
  Z = ℤ/ q pos

  abbrev z : ℕ → Residue q
  z = residue q pos

  abbrev zs : List ℕ → List (Residue q)
  zs = residues q pos

  infixl 65 ◌⊕◌
  infixl 70 ◌⊗◌
  open Z use {◌⊕◌, ◌⊗◌}

  pub value-below : (x : ℕ) (a : List ℕ) → value_mod q x a < q
  unfolding value_mod
  value-below x [] = pos
  value-below x (c ∷ a) = mod-lt _ pos

  -- numbers below q are known by their residues
  same : (x y : ℕ) → x < q → y < q → z x ≡ z y → x ≡ y
  same x y hx hy e = ap (λ (l : List ℕ). get_or l 0 0) (residues_injective q pos (x ∷ []) (y ∷ []) (hx, tt) (hy, tt) (ap (λ (r : Residue q). r ∷ []) e))

  module _ (n c : ℕ) (a b : List ℕ) (ha : length a ≡ n) (hb : length b ≡ n) where
    residues-combined : zs (plus q n a (scale q n c b)) ≡ zip_with (λ x y. x ⊕ z c ⊗ y) (zs a) (zs b)
    unfolding plus
    residues-combined =
        map-table z n _
        ∙ table_same n _ _ (λ k h. of-add_mod q pos _ _ ∙ ap (λ (r : Residue q). z (get_or a k 0) ⊕ r) (ap z (scale_at q pos n c b k h) ∙ of-mul_mod q pos c (get_or b k 0)))
        ∙ sym (zip_with-table (λ (x y : Residue q). x ⊕ z c ⊗ y) n (λ k. z (get_or a k 0)) (λ k. z (get_or b k 0)))
        ∙ ap₂ (zip_with (λ x y. x ⊕ z c ⊗ y)) (entries a ha) (entries b hb)
      where
        entries : (l : List ℕ) → length l ≡ n → table n (λ k. z (get_or l k 0)) ≡ zs l
        entries l h = sym (map-table z n (λ k. get_or l k 0)) ∙ ap (map z) (table-get_or n l 0 h)

    pub value-combined : (x : ℕ) → value_mod q x (plus q n a (scale q n c b)) ≡ add_mod q (value_mod q x a) (mul_mod q c (value_mod q x b))
    value-combined x =
        same _ _ (value-below x _) (mod-lt _ pos)
        (of-value_mod q pos x _
        ∙ ap (value Z (z x)) residues-combined
        ∙ value-zip Z (z x) (z c) (zs a) (zs b) (length-map a _ ∙ ha ∙ sym hb ∙ sym (length-map b _))
        ∙ sym (of-add_mod q pos _ _ ∙ ap₂ (λ (r s : Residue q). r ⊕ s) (of-value_mod q pos x a) (of-mul_mod q pos c _ ∙ ap (λ (r : Residue q). z c ⊗ r) (of-value_mod q pos x b))))

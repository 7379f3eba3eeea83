-- Lists of numbers and lists of residues: what an operation on numbers does to the residues.
use mathlib.Core.Path.{◌≡◌, refl, sym, ap, ap₂, ◌∙◌}
use mathlib.Core.List.{List, [], ◌∷◌, ◌++◌, map, zip_with}
use Prim.Native.Nat.{ℕ, zero, suc, ◌+◌, ◌-◌, ◌*◌, ◌%◌, ◌^◌, ◌<◌}
use native.Mathlib.Bridge.{le_prop}
use native.Mathlib.Nat.{mod-eq_of_lt, ℕ_set}
use native.Mathlib.Omega.{arith}
use lib.ListN.{length, get_or, length-map, get_or-map}
use Rattle.lists.specs.Table.{table}
use Rattle.lists.proofs.Tables.{length-table, get_or-table}
use Rattle.lists.proofs.Maps.{cons, map-map, map-id}
use Rattle.algebra.specs.Ring.{CommRing, pow, sum}
use Rattle.algebra.specs.Residues.{Residue, residue, residues}
use Rattle.algebra.specs.Polynomials.{coefficient}
use Rattle.algebra.specs.Evaluation.{value}
use Rattle.algebra.specs.Numbers.{add_mod, sub_mod, mul_mod, pow_mod, Below, Element, sum_below, value_mod}
use Rattle.algebra.proofs.Residues as Z
use Rattle.algebra.proofs.Residues.{ℤ/, of-mod, of-add, of-mul, of-neg, of_pow, of_zero}
use Rattle.algebra.proofs.Evaluation as E

-- ---- entries below q

pub below_at : (q : ℕ) → 0 < q → (l : List ℕ) → Below q l → (k : ℕ) → get_or l k 0 < q
below_at q pos [] h k = pos
below_at q pos (x ∷ l) h zero = h.0
below_at q pos (x ∷ l) h (suc k) = below_at q pos l h.1 k

pub below_by : (q : ℕ) (l : List ℕ) → ((k : ℕ) → k < length l → get_or l k 0 < q) → Below q l
below_by q [] h = tt
below_by q (x ∷ l) h = (h 0 (omega arith), below_by q l (λ k g. h (suc k) (omega arith)))

pub below-append : (q : ℕ) (a b : List ℕ) → Below q a → Below q b → Below q (a ++ b)
below-append q [] b ha hb = hb
below-append q (x ∷ a) b ha hb = (ha.0, below-append q a b ha.1 hb)

pub below-map : (q : ℕ) (f : ℕ → ℕ) → ((x : ℕ) → f x < q) → (a : List ℕ) → Below q (map f a)
below-map q f h [] = tt
below-map q f h (x ∷ a) = (h x, below-map q f h a)

pub below-zip_with : (q : ℕ) (f : ℕ → ℕ → ℕ) → ((x y : ℕ) → f x y < q) → (a b : List ℕ) → Below q (zip_with f a b)
unfolding zip_with
below-zip_with q f h [] b = tt
below-zip_with q f h (x ∷ a) [] = tt
below-zip_with q f h (x ∷ a) (y ∷ b) = (h x y, below-zip_with q f h a b)

pub element-table : (q n : ℕ) (f : ℕ → ℕ) → ((k : ℕ) → f k < q) → Element q n (table n f)
element-table q n f h = record {
  size = length-table n f;
  below = below_by q (table n f) (λ k g. let l : k < n = omega (arith, length-table n f) in rw (get_or-table n f k 0 l) (h k));
}

below-prop : (q : ℕ) (l : List ℕ) → IsProp (Below q l)
below-prop q [] x y = refl
below-prop q (c ∷ l) x y = ap₂ (λ (a : c < q) (b : Below q l). (a, b)) (le_prop x.0 y.0) (below-prop q l x.1 y.1)

pub element-prop : (q n : ℕ) (l : List ℕ) → IsProp (Element q n l)
element-prop q n l x y = λ i. record { size = ℕ_set _ _ x.size y.size i; below = below-prop q l x.below y.below i }

-- ---- residues

module _ (q : ℕ) (pos : 0 < q) where
  abbrev R : CommRing (Residue q)
  R = ℤ/ q pos

  abbrev z : ℕ → Residue q
  z = residue q pos

  abbrev zs : List ℕ → List (Residue q)
  zs = residues q pos

  infixl 65 ◌⊕◌
  infixl 70 ◌⊗◌
  open R use {◌⊕◌, ◌⊗◌, neg, 𝟘, 𝟙}

  pub of-add_mod : (x y : ℕ) → z (add_mod q x y) ≡ z x ⊕ z y
  of-add_mod x y = of-mod q pos (x + y) ∙ of-add q pos x y

  pub of-mul_mod : (x y : ℕ) → z (mul_mod q x y) ≡ z x ⊗ z y
  of-mul_mod x y = of-mod q pos (x * y) ∙ of-mul q pos x y

  pub of-sub_mod : (x y : ℕ) → z (sub_mod q x y) ≡ z x ⊕ neg (z y)
  of-sub_mod x y = of-mod q pos (x + (q - y % q)) ∙ of-add q pos x (q - y % q) ∙ ap (λ (t : Residue q). z x ⊕ t) (of-neg q pos y)

  pub of-pow_mod : (x n : ℕ) → z (pow_mod q x n) ≡ pow R (z x) n
  of-pow_mod x n = of-mod q pos (x ^ n) ∙ of_pow q pos x n

  pub of-value_mod : (x : ℕ) (a : List ℕ) → z (value_mod q x a) ≡ value R (z x) (zs a)
  unfolding value_mod
  of-value_mod x [] = of_zero q pos ∙ sym (E.value-nil R (z x))
  of-value_mod x (c ∷ a) =
      of-add_mod c (mul_mod q x (value_mod q x a))
      ∙ ap (λ (t : Residue q). z c ⊕ t) (of-mul_mod x (value_mod q x a) ∙ ap (λ (t : Residue q). z x ⊗ t) (of-value_mod x a))
      ∙ sym (E.value-cons R (z x) (z c) (zs a))

  pub of-sum_below : (n : ℕ) (f : ℕ → ℕ) → z (sum_below n f) ≡ sum R n (λ i. z (f i))
  unfolding sum_below sum
  of-sum_below zero f = of_zero q pos
  of-sum_below (suc n) f = of-add q pos (f zero) (sum_below n (λ i. f (suc i))) ∙ ap (λ (t : Residue q). z (f zero) ⊕ t) (of-sum_below n (λ i. f (suc i)))

  -- the coefficients of a list's residues
  pub of-coefficient : (l : List ℕ) (k : ℕ) → coefficient R (zs l) k ≡ z (get_or l k 0)
  of-coefficient l k = ap (get_or (zs l) k) (sym (of_zero q pos)) ∙ get_or-map z l k 0

  -- numbers below q are known by their residues
  pub residues_injective : (a b : List ℕ) → Below q a → Below q b → zs a ≡ zs b → a ≡ b
  residues_injective a b ha hb e = sym (back a ha) ∙ ap (map (λ (x : Residue q). x.0)) e ∙ back b hb
    where
      back : (l : List ℕ) → Below q l → map (λ (x : Residue q). x.0) (zs l) ≡ l
      back [] h = refl
      back (x ∷ l) h = cons (Z.residue-value q pos x ∙ mod-eq_of_lt h.0) (back l h.1)

  -- every list of residues comes from a list of numbers below q
  pub representatives : List (Residue q) → List ℕ
  representatives l = map (λ (x : Residue q). x.0) l

  pub length-representatives : (l : List (Residue q)) → length (representatives l) ≡ length l
  unfolding representatives
  length-representatives l = length-map l _

  pub below-representatives : (l : List (Residue q)) → Below q (representatives l)
  unfolding representatives
  below-representatives [] = tt
  below-representatives (x ∷ l) = (x.1, below-representatives l)

  pub residues-representatives : (l : List (Residue q)) → zs (representatives l) ≡ l
  unfolding representatives
  residues-representatives l = map-map (λ (x : Residue q). x.0) z l ∙ map-id _ (Z.residue_of-value q pos) l

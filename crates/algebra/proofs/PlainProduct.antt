-- Where X^n = - 1 the product is the plain sum over pairs of coefficients, in every ring and on lists of numbers; the ring under it.
use mathlib.Core.Path.{◌≡◌, sym, ap, ap₂, ◌∙◌, fun_ext}
use mathlib.Core.Bool.{Bool, true, false, not, cond}
use mathlib.Core.List.{List}
use Prim.Native.Nat.{ℕ, zero, suc, ◌+◌, ◌-◌, ◌*◌, ◌%◌, ◌≤◌, ◌<◌, zero-le, suc-le-suc}
use native.Mathlib.Nat.{le_of_suc-le-suc, mod-lt, mod-eq_of_lt, zero-add}
use native.Mathlib.Omega.{arith}
use lib.Dec.{T, ltb, lt→ltb, leb, leb→le, nleb→lt, eqb}
use lib.ListN.{length, get_or, length-map}
use Rattle.lists.specs.Table.{table}
use Rattle.lists.proofs.Tables.{length-table, get_or-table, table_same, map-table}
use Rattle.algebra.specs.Ring.{CommRing, sum}
use Rattle.algebra.specs.Residues.{Residue, residue, residues}
use Rattle.algebra.specs.Polynomials.{coefficient, negacyclic, act, times_x, shifted, times_power}
use Rattle.algebra.specs.Polynomials as P
use Rattle.algebra.specs.OnNumbers.{IsProduct}
use Rattle.algebra.specs.Numbers.{Element, Elements, one, sum_below, product_coefficient, product, monomial, sub_mod}
use Rattle.algebra.proofs.Ring.{ring, sum_same, sum-append, sum-neg}
use Rattle.algebra.proofs.Ring as L
use Rattle.algebra.proofs.Residues.{ℤ/, of-mod, of-same, of-add, of-mul, of-minus-one, of_zero, of_one, same_of}
use Rattle.algebra.proofs.Polynomials.{act-sum, act-monomial}
use Rattle.algebra.proofs.Elements.{elements, inverse-unique}
use Rattle.algebra.proofs.Numbers.{element-table, of-sum_below, of-coefficient, of-sub_mod, below_at, residues_injective}

module _ {F : Type 0} (R : CommRing F) (p : ℕ) where
  infixl 65 ◌⊕◌
  infixl 70 ◌⊗◌
  open R use {◌⊕◌, ◌⊗◌, neg, 𝟘, 𝟙}

  abbrev r : List F
  r = negacyclic R

  -- times X moves up by one and brings the last coefficient to the front, with the other sign
  times_x-zero : (u : ℕ → F) → times_x R p r u zero ≡ neg (u p)
  unfolding times_x shifted
  times_x-zero u = simp ring

  times_x-suc : (u : ℕ → F) (k : ℕ) → k < p → times_x R p r u (suc k) ≡ u k
  unfolding times_x shifted
  times_x-suc u k h = go (ltb k p) (lt→ltb k p h)
    where
      go : (b : Bool) → T b → cond b (u k) 𝟘 ⊕ u p ⊗ 𝟘 ≡ u k
      go true t = simp ring
      go false t = absurd t

  power_low : (u : ℕ → F) (i k : ℕ) → i ≤ k → k ≤ p → times_power R p r i u k ≡ u (k - i)
  unfolding times_power
  power_low u zero k h l = ap u (omega arith)
  power_low u (suc i) zero h l = absurd (omega arith)
  power_low u (suc i) (suc k) h l = times_x-suc (times_power R p r i u) k (omega arith) ∙ power_low u i k (omega arith) (omega arith) ∙ ap u (omega arith)

  power_high : (u : ℕ → F) (i k : ℕ) → k < i → i ≤ p → times_power R p r i u k ≡ neg (u (suc p + k - i))
  unfolding times_power
  power_high u zero k h l = absurd (omega arith)
  power_high u (suc i) zero h l = times_x-zero (times_power R p r i u) ∙ ap neg (power_low u i p (omega arith) (omega arith) ∙ ap u (omega arith))
  power_high u (suc i) (suc k) h l =
      times_x-suc (times_power R p r i u) k (omega arith) ∙ power_high u i k (omega arith) (omega arith) ∙ ap (λ (j : ℕ). neg (u j)) (omega arith)

  pub plain-coefficient : (a b : List F) → length a ≡ suc p → (k : ℕ) → k ≤ p
      → act R (times_x R p r) a (coefficient R b) k
      ≡ sum R (suc k) (λ i. coefficient R a i ⊗ coefficient R b (k - i))
      ⊕ neg (sum R (p - k) (λ i. coefficient R a (suc k + i) ⊗ coefficient R b (suc p + k - (suc k + i))))
  plain-coefficient a b ha k h =
      act-sum R p r a (coefficient R b) k ∙ ap (λ (n : ℕ). sum R n term) (ha ∙ omega arith) ∙ sum-append R (suc k) (p - k) term
      ∙ ap₂ (λ (x y : F). x ⊕ y) (sum_same R (suc k) _ _ low) (sum_same R (p - k) _ _ high ∙ sum-neg R (p - k) _)
    where
      term : ℕ → F
      term i = coefficient R a i ⊗ times_power R p r i (coefficient R b) k

      low : (i : ℕ) → i < suc k → term i ≡ coefficient R a i ⊗ coefficient R b (k - i)
      low i l = ap (λ (y : F). coefficient R a i ⊗ y) (power_low (coefficient R b) i k (omega arith) h)

      high : (i : ℕ) → i < p - k → term (suc k + i) ≡ neg (coefficient R a (suc k + i) ⊗ coefficient R b (suc p + k - (suc k + i)))
      high i l =
          ap (λ (y : F). coefficient R a (suc k + i) ⊗ y) (power_high (coefficient R b) (suc k + i) k (omega arith) (omega arith))
          ∙ L.times-neg R _ _

-- ---- numbers

pub product-element : (q n : ℕ) → 0 < q → (a b : List ℕ) → Element q n (product q n a b)
unfolding product product_coefficient
product-element q n pos a b = element-table q n (product_coefficient q n a b) (λ k. mod-lt _ pos)

module _ (q : ℕ) (pos : 0 < q) (p : ℕ) where
  abbrev Z : CommRing (Residue q)
  Z = ℤ/ q pos

  abbrev z : ℕ → Residue q
  z = residue q pos

  abbrev zs : List ℕ → List (Residue q)
  zs = residues q pos

  infixl 65 ◌⊕◌
  infixl 70 ◌⊗◌
  open Z use {◌⊕◌, ◌⊗◌, neg, 𝟙}

  part : (n : ℕ) (a b : List ℕ) (f g : ℕ → ℕ)
      → z (sum_below n (λ i. get_or a (f i) 0 * get_or b (g i) 0)) ≡ sum Z n (λ i. z (get_or a (f i) 0) ⊗ z (get_or b (g i) 0))
  part n a b f g = of-sum_below q pos n _ ∙ sum_same Z n _ _ (λ i h. of-mul q pos _ _)

  -- the two sums of a coefficient, each from 0
  two-sums : (a b : List ℕ) (k : ℕ) → product_coefficient q (suc p) a b k
      ≡ (sum_below (suc k) (λ i. get_or a i 0 * get_or b (k - i) 0)
      + (q - 1) * sum_below (p - k) (λ i. get_or a (suc k + i) 0 * get_or b (suc p + k - (suc k + i)) 0)) % q
  unfolding product_coefficient
  two-sums a b k =
      ap₂ (λ (x y : ℕ). (x + (q - 1) * y) % q)
      (ap₂ sum_below (omega arith) (fun_ext λ i. ap (λ (j : ℕ). get_or a j 0 * get_or b (k - j) 0) (zero-add i)))
      (ap₂ sum_below (omega arith) (fun_ext λ i. ap (λ (m : ℕ). get_or a (m + i) 0 * get_or b (suc p + k - (m + i)) 0) (omega arith)))

  residue-coefficient : (a b : List ℕ) (k : ℕ) → z (product_coefficient q (suc p) a b k)
      ≡ sum Z (suc k) (λ i. z (get_or a i 0) ⊗ z (get_or b (k - i) 0))
      ⊕ neg (sum Z (p - k) (λ i. z (get_or a (suc k + i) 0) ⊗ z (get_or b (suc p + k - (suc k + i)) 0)))
  residue-coefficient a b k =
      ap z (two-sums a b k) ∙ of-mod q pos _ ∙ of-add q pos _ _
      ∙ ap₂ (λ (x y : Residue q). x ⊕ y) (part (suc k) a b (λ i. i) (λ i. k - i))
      (of-mul q pos (q - 1) _
      ∙ ap₂ (λ (x y : Residue q). x ⊗ y) (of-minus-one q pos) (part (p - k) a b (λ i. suc k + i) (λ i. suc p + k - (suc k + i))) ∙ minus_one _)
    where
      minus_one : (x : Residue q) → neg 𝟙 ⊗ x ≡ neg x
      minus_one x = simp ring

  -- two products whose factors have the same residues, wherever the sums look
  same-sums : (k : ℕ) → k ≤ p → (u u' v v' : ℕ → Residue q) → ((i : ℕ) → i < suc p → u i ≡ u' i) → ((i : ℕ) → i < suc p → v i ≡ v' i)
      → sum Z (suc k) (λ i. u i ⊗ v (k - i)) ⊕ neg (sum Z (p - k) (λ i. u (suc k + i) ⊗ v (suc p + k - (suc k + i))))
      ≡ sum Z (suc k) (λ i. u' i ⊗ v' (k - i)) ⊕ neg (sum Z (p - k) (λ i. u' (suc k + i) ⊗ v' (suc p + k - (suc k + i))))
  same-sums k h u u' v v' e f =
      ap₂ (λ (x y : Residue q). x ⊕ neg y)
      (sum_same Z (suc k) _ _ (λ i l. ap₂ (λ (x y : Residue q). x ⊗ y) (e i (omega arith)) (f (k - i) (omega arith))))
      (sum_same Z (p - k) _ _ (λ i l. ap₂ (λ (x y : Residue q). x ⊗ y) (e (suc k + i) (omega arith)) (f (suc p + k - (suc k + i)) (omega arith))))

  -- the plain product is the ring's
  pub product_is : (a b : List ℕ) → length a ≡ suc p → zs (product q (suc p) a b) ≡ P.product Z p (negacyclic Z) (zs a) (zs b)
  unfolding product P.product
  product_is a b ha = map-table z (suc p) (product_coefficient q (suc p) a b) ∙ table_same (suc p) _ _ (λ k h. same k (le_of_suc-le-suc h))
    where
      same : (k : ℕ) → k ≤ p → z (product_coefficient q (suc p) a b k) ≡ act Z (times_x Z p (negacyclic Z)) (zs a) (coefficient Z (zs b)) k
      same k h =
          residue-coefficient a b k
          ∙ same-sums k h _ (coefficient Z (zs a)) _ (coefficient Z (zs b)) (λ i l. sym (of-coefficient q pos a i)) (λ i l. sym (of-coefficient q pos b i))
          ∙ sym (plain-coefficient Z p (zs a) (zs b) (length-map a _ ∙ ha) k h)

  -- it depends on the first n entries modulo q only
  pub product_by-residues : (a a' b b' : List ℕ)
      → ((k : ℕ) → k < suc p → get_or a k 0 % q ≡ get_or a' k 0 % q) → ((k : ℕ) → k < suc p → get_or b k 0 % q ≡ get_or b' k 0 % q)
      → product q (suc p) a b ≡ product q (suc p) a' b'
  product_by-residues a a' b b' e f =
      residues_injective q pos _ _ (product-element q (suc p) pos a b).below (product-element q (suc p) pos a' b').below
      (residues_of a b ∙ table_same (suc p) _ _ (λ k h. same k (le_of_suc-le-suc h)) ∙ sym (residues_of a' b'))
    where
      same : (k : ℕ) → k ≤ p → z (product_coefficient q (suc p) a b k) ≡ z (product_coefficient q (suc p) a' b' k)
      same k h =
          residue-coefficient a b k
          ∙ same-sums k h _ (λ i. z (get_or a' i 0)) _ (λ i. z (get_or b' i 0)) (λ i l. of-same q pos _ _ (e i l)) (λ i l. of-same q pos _ _ (f i l))
          ∙ sym (residue-coefficient a' b' k)

      residues_of : (a b : List ℕ) → zs (product q (suc p) a b) ≡ table (suc p) (λ k. z (product_coefficient q (suc p) a b k))
      residues_of a b = unfold product in map-table z (suc p) (product_coefficient q (suc p) a b)

  -- coefficient k of X^i × b
  pub product-monomial : (i k : ℕ) (b : List ℕ) → i ≤ p → k ≤ p
      → get_or (product q (suc p) (monomial (suc p) i) b) k 0 ≡ cond (leb i k) (get_or b (k - i) 0 % q) (sub_mod q 0 (get_or b (suc p + k - i) 0))
  product-monomial i k b hi hk =
      sym (mod-eq_of_lt (below_at q pos (product q (suc p) m b) (product-element q (suc p) pos m b).below k))
      ∙ same_of q pos _ _ (
      sym (of-coefficient q pos (product q (suc p) m b) k)
      ∙ ap (λ (l : List (Residue q)). coefficient Z l k) (product_is m b size) ∙ entry
      ∙ act-monomial Z p (negacyclic Z) (zs m) i (length-map m _ ∙ size) hi digits (coefficient Z (zs b)) k
      ∙ moved (leb i k) (leb→le i k) (nleb→lt i k))
      ∙ mod-eq_of_lt (small (leb i k))
    where
      m : List ℕ
      m = monomial (suc p) i

      size : length m ≡ suc p
      size = length-table (suc p) _

      entry : coefficient Z (P.product Z p (negacyclic Z) (zs m) (zs b)) k ≡ act Z (times_x Z p (negacyclic Z)) (zs m) (coefficient Z (zs b)) k
      entry = unfold P.product in get_or-table (suc p) _ k _ (suc-le-suc hk)

      digit : (c : Bool) → z (cond c 1 0) ≡ cond c 𝟙 (CommRing.𝟘 Z)
      digit true = of_one q pos
      digit false = of_zero q pos

      digits : (j : ℕ) → j ≤ p → coefficient Z (zs m) j ≡ cond (eqb j i) 𝟙 (CommRing.𝟘 Z)
      digits j l = of-coefficient q pos m j ∙ ap z (get_or-table (suc p) _ j 0 (suc-le-suc l)) ∙ digit (eqb j i)

      moved : (c : Bool) → (T c → i ≤ k) → (T (not c) → k < i)
          → times_power Z p (negacyclic Z) i (coefficient Z (zs b)) k ≡ z (cond c (get_or b (k - i) 0 % q) (sub_mod q 0 (get_or b (suc p + k - i) 0)))
      moved true f g = power_low Z p (coefficient Z (zs b)) i k (f tt) hk ∙ of-coefficient q pos b (k - i) ∙ sym (of-mod q pos _)
      moved false f g =
          power_high Z p (coefficient Z (zs b)) i k (g tt) hi ∙ ap neg (of-coefficient q pos b (suc p + k - i))
          ∙ sym (of-sub_mod q pos 0 (get_or b (suc p + k - i) 0) ∙ ap (λ (x : Residue q). x ⊕ neg (z (get_or b (suc p + k - i) 0))) (of_zero q pos)
          ∙ L.zero-plus Z _)

      small : (c : Bool) → cond c (get_or b (k - i) 0 % q) (sub_mod q 0 (get_or b (suc p + k - i) 0)) < q
      small true = mod-lt _ pos
      small false = mod-lt _ pos

-- ---- the ring, for every degree and modulus

pub plain-product : (q : ℕ) (pos : 0 < q) (p : ℕ) → IsProduct (ℤ/ q pos) (residue q pos) q p (negacyclic (ℤ/ q pos)) (product q (suc p))
plain-product q pos p = record { fits = suc-le-suc zero-le; element = product-element q (suc p) pos; same = λ a b ha hb. product_is q pos p a b ha }

-- where it and `elements` unfold, its operations are `plus`, `product` and `negate`
unfoldable pub plain_ring : (q : ℕ) → 0 < q → (p : ℕ) → CommRing (Elements q (suc p))
plain_ring q pos p = elements q pos p (negacyclic (ℤ/ q pos)) (product q (suc p)) (plain-product q pos p)

-- an inverse is the only one
pub plain-inverse-unique : (q : ℕ) → 0 < q → (p : ℕ) (b i j : List ℕ) → length b ≡ suc p → Element q (suc p) i → Element q (suc p) j
    → product q (suc p) b i ≡ one q (suc p) → product q (suc p) b j ≡ one q (suc p) → i ≡ j
plain-inverse-unique q pos p = inverse-unique q pos p (negacyclic (ℤ/ q pos)) (product q (suc p)) (plain-product q pos p)

-- A transform that is carried out on lists of numbers: its product is the product, both ways are inverse to each other, and a list
-- is invertible exactly when no entry of its transform is zero modulo q. For every degree, modulus, rule and transform.
use mathlib.Core.Path.{◌≡◌, refl, sym, ap, ap₂, ◌∙◌, subst}
use mathlib.Core.List.{List, [], ◌∷◌, zip_with}
use mathlib.Core.Logic.{◌↔◌, ◌≢◌}
use Prim.Native.Nat.{ℕ, zero, suc, ◌%◌, ◌<◌}
use native.Mathlib.Nat.{suc_inj}
use native.Mathlib.Decide.{dec_lt, map_dec}
use native.Mathlib.Omega.{arith}
use lib.ListN.{length, get_or, replicate, length-map}
use Rattle.lists.proofs.Maps.{cons, map-zip_with, length-zip_with}
use Rattle.algebra.specs.Ring.{CommRing, IsField}
use Rattle.algebra.specs.Residues.{Residue, residue, residues}
use Rattle.algebra.specs.Polynomials as P
use Rattle.algebra.specs.Evaluation.{NoZero, pointwise}
use Rattle.algebra.specs.Transform.{Transform}
use Rattle.algebra.specs.Transform as T
use Rattle.algebra.specs.OnNumbers.{IsProduct, IsTransform}
use Rattle.algebra.specs.Numbers.{mul_mod, Element, Invertible, one}
use Rattle.algebra.proofs.Residues.{ℤ/, zero_iff, of_one}
use Rattle.algebra.proofs.Transform as F
use Rattle.algebra.proofs.Units as U
use Rattle.algebra.proofs.Numbers.{of-mul_mod, residues_injective}
use Rattle.algebra.proofs.Numbers.{representatives, length-representatives, below-representatives, residues-representatives}
use Rattle.algebra.proofs.Elements.{reduced-element, residues-one}

-- a decidable property of every number below n is decidable
each : (P : ℕ → Type 0) → ((k : ℕ) → Dec (P k)) → (n : ℕ) → Dec ((k : ℕ) → k < n → P k)
each P dec zero = yes (λ k h. absurd (omega arith))
each P dec (suc n) = join (dec n) (each P dec n)
  where
    join : Dec (P n) → Dec ((k : ℕ) → k < n → P k) → Dec ((k : ℕ) → k < suc n → P k)
    join (no f) r = no (λ g. f (g n (omega arith)))
    join (yes f) (no r) = no (λ g. r (λ k h. g k (omega arith)))
    join (yes f) (yes r) = yes (λ k h. pick k h (dec_lt k n))
      where
        pick : (k : ℕ) → k < suc n → Dec (k < n) → P k
        pick k h (yes l) = r k l
        pick k h (no l) = let e : n ≡ k = omega arith in subst P e f

module _ (q : ℕ) (pos : 0 < q) (p : ℕ) (r : List (Residue q)) (t : Transform (ℤ/ q pos) p r) (forth back : List ℕ → List ℕ)
    (is : IsTransform (ℤ/ q pos) (residue q pos) q p r t forth back) where
  abbrev Z : CommRing (Residue q)
  Z = ℤ/ q pos

  abbrev zs : List ℕ → List (Residue q)
  zs = residues q pos

  size_of : (a : List ℕ) → length a ≡ suc p → length (zs a) ≡ suc p
  size_of a h = length-map a _ ∙ h

  pub length_forth : (a : List ℕ) → length a ≡ suc p → length (forth a) ≡ suc p
  length_forth a h = sym (length-map (forth a) _) ∙ ap length (is.forth_is a h) ∙ F.length-forward Z t (zs a) (size_of a h)

  pub length_back : (v : List ℕ) → length v ≡ suc p → length (back v) ≡ suc p
  length_back v h = sym (length-map (back v) _) ∙ ap length (is.back_is v h) ∙ F.length-backward Z t (zs v) (size_of v h)

  pub back-element : (v : List ℕ) → length v ≡ suc p → Element q (suc p) (back v)
  back-element v h = record { size = length_back v h; below = is.back_below v }

  pub forth-element : (a : List ℕ) → Element q (suc p) a → Element q (suc p) (forth a)
  forth-element a h = record { size = length_forth a h.size; below = is.forth-below a h }

  -- ---- the two ways are inverse to each other

  pub back_forth : (a : List ℕ) → Element q (suc p) a → back (forth a) ≡ a
  back_forth a h =
      residues_injective q pos (back (forth a)) a (is.back_below (forth a)) h.below
      (is.back_is (forth a) (length_forth a h.size) ∙ ap (T.backward Z t) (is.forth_is a h.size)
      ∙ F.backward-forward Z t (zs a) (size_of a h.size))

  pub forth-back : (v : List ℕ) → Element q (suc p) v → forth (back v) ≡ v
  forth-back v h =
      residues_injective q pos (forth (back v)) v (is.forth-below (back v) (back-element v h.size)) h.below
      (is.forth_is (back v) (length_back v h.size) ∙ ap (T.forward Z t) (is.back_is v h.size)
      ∙ F.forward-backward Z t (zs v) (size_of v h.size))

  -- ---- products

  residues-pointwise : (a b : List ℕ) → zs (zip_with (mul_mod q) a b) ≡ pointwise Z (zs a) (zs b)
  residues-pointwise a b = map-zip_with (residue q pos) (mul_mod q) (CommRing.◌⊗◌ Z) (of-mul_mod q pos) a b

  module _ (times : List ℕ → List ℕ → List ℕ) (product : IsProduct Z (residue q pos) q p r times) where
    -- the product by transform is the product
    pub product_by_transform : (a b : List ℕ) → length a ≡ suc p → length b ≡ suc p → back (zip_with (mul_mod q) (forth a) (forth b)) ≡ times a b
    product_by_transform a b ha hb =
        residues_injective q pos (back v) (times a b) (is.back_below v) (product.element a b).below
        (is.back_is v size ∙ ap (T.backward Z t) (residues-pointwise (forth a) (forth b) ∙ ap₂ (pointwise Z) (is.forth_is a ha) (is.forth_is b hb))
        ∙ F.product_by_transform Z t (zs a) (zs b) (size_of a ha) (size_of b hb) ∙ sym (product.same a b ha hb))
      where
        v : List ℕ
        v = zip_with (mul_mod q) (forth a) (forth b)

        size : length v ≡ suc p
        size = length-zip_with (mul_mod q) (forth a) (forth b) (length_forth a ha ∙ sym (length_forth b hb)) ∙ length_forth a ha

    -- ---- units

    to_one : (b i : List ℕ) → length b ≡ suc p → length i ≡ suc p → P.product Z p r (zs b) (zs i) ≡ P.padded Z (suc p) (CommRing.𝟙 Z ∷ [])
        → times b i ≡ one q (suc p)
    to_one b i hb hi e =
        residues_injective q pos (times b i) (one q (suc p)) (product.element b i).below (reduced-element q pos (suc p) (1 ∷ [])).below
        (product.same b i hb hi ∙ e ∙ sym (residues-one q pos p))

    ones : (n : ℕ) (x y : List ℕ) → length x ≡ n → length y ≡ n → ((k : ℕ) → k < n → mul_mod q (get_or x k 0) (get_or y k 0) ≡ 1)
        → pointwise Z (zs x) (zs y) ≡ replicate n (CommRing.𝟙 Z)
    unfolding zip_with
    ones zero [] [] hx hy f = refl
    ones zero [] (v ∷ y) hx hy f = absurd (omega arith)
    ones zero (s ∷ x) y hx hy f = absurd (omega arith)
    ones (suc n) [] y hx hy f = absurd (omega arith)
    ones (suc n) (s ∷ x) [] hx hy f = absurd (omega arith)
    ones (suc n) (s ∷ x) (v ∷ y) hx hy f =
        cons (sym (of-mul_mod q pos s v) ∙ ap (residue q pos) (f 0 (omega arith)) ∙ of_one q pos)
        (ones n x y (suc_inj hx) (suc_inj hy) (λ k l. f (suc k) (omega arith)))

    -- the inverse from inverses of the entries
    pub inverse_by_transform : (b w : List ℕ) → length b ≡ suc p → length w ≡ suc p
        → ((k : ℕ) → k < suc p → mul_mod q (get_or (forth b) k 0) (get_or w k 0) ≡ 1) → times b (back w) ≡ one q (suc p)
    inverse_by_transform b w hb hw e =
        to_one b (back w) hb (length_back w hw)
        (ap (P.product Z p r (zs b)) (is.back_is w hw)
        ∙ U.inverse_by_transform Z t (zs b) (zs w) (size_of b hb) (size_of w hw)
        (ap (λ (x : List (Residue q)). pointwise Z x (zs w)) (sym (is.forth_is b hb)) ∙ ones (suc p) (forth b) w (length_forth b hb) hw e))

    pub invertible_iff : IsField Z → (b : List ℕ) → length b ≡ suc p → Invertible q (suc p) times b ↔ ((k : ℕ) → k < suc p → get_or (forth b) k 0 % q ≢ 0)
    invertible_iff field b hb = (only, made)
      where
        iff : P.Invertible Z p r (zs b) ↔ NoZero Z (T.forward Z t (zs b))
        iff = U.unit_iff Z t field (zs b) (size_of b hb)

        -- no zero among the residues, and no entry that q divides
        down : (l : List ℕ) → NoZero Z (zs l) → (k : ℕ) → k < length l → get_or l k 0 % q ≢ 0
        down [] g k h e = omega arith
        down (x ∷ l) g zero h e = g.0 ((zero_iff q pos x).1 e)
        down (x ∷ l) g (suc k) h e = down l g.1 k (omega arith) e

        up : (l : List ℕ) → ((k : ℕ) → k < length l → get_or l k 0 % q ≢ 0) → NoZero Z (zs l)
        up [] g = tt
        up (x ∷ l) g = ((λ e. g 0 (omega arith) ((zero_iff q pos x).0 e)), up l (λ k h. g (suc k) (omega arith)))

        only : Invertible q (suc p) times b → (k : ℕ) → k < suc p → get_or (forth b) k 0 % q ≢ 0
        only (i, hi, e) k h =
            down (forth b) (subst (NoZero Z) (sym (is.forth_is b hb)) (iff.0 (zs i, size_of i hi.size, same))) k
            (omega (arith, length_forth b hb))
          where
            same : P.product Z p r (zs b) (zs i) ≡ P.padded Z (suc p) (CommRing.𝟙 Z ∷ [])
            same = sym (product.same b i hb hi.size) ∙ ap zs e ∙ residues-one q pos p

        made : ((k : ℕ) → k < suc p → get_or (forth b) k 0 % q ≢ 0) → Invertible q (suc p) times b
        made g = put (iff.1 (subst (NoZero Z) (is.forth_is b hb) (up (forth b) (λ k h. g k (omega (arith, length_forth b hb))))))
          where
            put : P.Invertible Z p r (zs b) → Invertible q (suc p) times b
            put (i, hi, e) =
                let j : List ℕ = representatives q pos i in
                let hj : length j ≡ suc p = length-representatives q pos i ∙ hi in
                let inverse = ap (P.product Z p r (zs b)) (residues-representatives q pos i) ∙ e in
                (j, record { size = hj; below = below-representatives q pos i }, to_one b j hb hj inverse)

    -- so it is decidable, with the inverse as its witness
    pub decide : IsField Z → (b : List ℕ) → length b ≡ suc p → Dec (Invertible q (suc p) times b)
    decide field b hb =
        map_dec (invertible_iff field b hb).1 (invertible_iff field b hb).0
        (each (λ k. get_or (forth b) k 0 % q ≢ 0) (λ k. not-zero (get_or (forth b) k 0 % q)) (suc p))
      where
        not-zero : (x : ℕ) → Dec (x ≢ 0)
        not-zero zero = no (λ f. f refl)
        not-zero (suc x) = yes (λ e. omega arith)

-- Bounds on sums and products, and on the coefficients of a product of polynomials.
use mathlib.Core.Path.{◌≡◌, refl, sym, ap, ap₂, ◌∙◌, subst}
use mathlib.Core.Bool.{Bool, true, false, cond}
use mathlib.Core.List.{List}
use Prim.Native.Nat.{ℕ, zero, suc, ◌+◌, ◌-◌, ◌*◌, ◌%◌, ◌≤◌, ◌<◌, zero-le, suc-le-suc}
use native.Mathlib.Nat.{one-mul, le_refl, le_of_eq, le_trans, mul-le-mul, mod-le, mod-lt, mod-eq_of_lt, mod_self, add-mul, suc-add}
use native.Mathlib.Decide.{dec_le}
use native.Mathlib.Omega.{arith}
use lib.Dec.{ltb}
use lib.ListN.{length, get_or, length-map}
use Rattle.algebra.specs.Ring.{CommRing, sum}
use Rattle.algebra.specs.Residues.{Residue, residue, residues}
use Rattle.algebra.specs.Polynomials.{coefficient, product, negacyclic, times_x, shifted, times_power}
use Rattle.algebra.specs.Numbers as N
use Rattle.algebra.specs.Numbers.{sum_below}
use Rattle.algebra.specs.OnNumbers.{IsProduct}
use Rattle.algebra.specs.Size.{count, Within, positive, negative, Spread, magnitude}
use Rattle.algebra.proofs.Ring.{ring}
use Rattle.algebra.proofs.Ring as L
use Rattle.algebra.proofs.Residues.{ℤ/, of-mod, of_zero, of_one, of-add, of-neg, same_of}
use Rattle.algebra.proofs.Polynomials.{act-sum, coefficient-product}
use Rattle.algebra.proofs.Numbers.{of-coefficient}
use Rattle.algebra.proofs.PlainProduct.{plain-product}

module _ {F : Type 0} (R : CommRing F) where
  infixl 65 ◌⊕◌
  infixl 70 ◌⊗◌
  open R use {◌⊕◌, ◌⊗◌, neg, 𝟘, 𝟙}

  pub count-zero : count R 0 ≡ 𝟘
  unfolding count
  count-zero = refl

  pub count-suc : (n : ℕ) → count R (suc n) ≡ 𝟙 ⊕ count R n
  unfolding count
  count-suc n = refl

  pub count_add : (m n : ℕ) → count R (m + n) ≡ count R m ⊕ count R n
  count_add zero n = ap (count R) (omega arith) ∙ sym (L.zero-plus R (count R n)) ∙ ap (λ (x : F). x ⊕ count R n) (sym count-zero)
  count_add (suc m) n =
      ap (count R) (suc-add m n) ∙ count-suc (m + n) ∙ ap (λ (x : F). 𝟙 ⊕ x) (count_add m n) ∙ sym (L.plus_assoc R 𝟙 (count R m) (count R n))
      ∙ ap (λ (x : F). x ⊕ count R n) (sym (count-suc m))

  pub count-mul : (m n : ℕ) → count R (m * n) ≡ count R m ⊗ count R n
  count-mul zero n = ap (count R) (omega arith) ∙ count-zero ∙ sym (L.zero-times R (count R n)) ∙ ap (λ (x : F). x ⊗ count R n) (sym count-zero)
  count-mul (suc m) n =
      ap (count R) (omega arith) ∙ count_add n (m * n) ∙ ap (λ (x : F). count R n ⊕ x) (count-mul m n) ∙ one_more_lem (count R m) (count R n)
      ∙ ap (λ (x : F). x ⊗ count R n) (sym (count-suc m))
    where
      one_more_lem : (x y : F) → y ⊕ x ⊗ y ≡ (𝟙 ⊕ x) ⊗ y
      one_more_lem x y = simp ring

  count-sub : (m n : ℕ) → n ≤ m → count R m ⊕ neg (count R n) ≡ count R (m - n)
  count-sub m n h = ap (λ (x : F). x ⊕ neg (count R n)) (ap (count R) split ∙ count_add (m - n) n) ∙ cut (count R (m - n)) (count R n)
    where
      split : m ≡ (m - n) + n
      split = omega arith

      cut : (x y : F) → x ⊕ y ⊕ neg y ≡ x
      cut x y = simp ring

  -- ---- sums and products

  pub within-zero : (b : ℕ) → Within R b 𝟘
  within-zero b = positive zero zero-le (sym count-zero)

  pub within-up : {a b : ℕ} {x : F} → a ≤ b → Within R a x → Within R b x
  within-up h (positive k g e) = positive k (le_trans g h) e
  within-up h (negative k g e) = negative k (le_trans g h) e

  pub within-neg : {b : ℕ} {x : F} → Within R b x → Within R b (neg x)
  within-neg (positive k g e) = negative k g (ap neg e)
  within-neg (negative k g e) = positive k g (ap neg e ∙ L.neg-neg R (count R k))

  difference : {b : ℕ} {x : F} (k m : ℕ) → k ≤ b → m ≤ b → x ≡ count R k ⊕ neg (count R m) → Within R b x
  difference {b} {x} k m hk hm e = go (dec_le m k)
    where
      turn : (x y : F) → x ⊕ neg y ≡ neg (y ⊕ neg x)
      turn x y = simp ring

      go : Dec (m ≤ k) → Within R b x
      go (yes h) = positive (k - m) (omega arith) (e ∙ count-sub k m h)
      go (no h) = negative (m - k) (omega arith) (e ∙ turn (count R k) (count R m) ∙ ap neg (count-sub m k (omega arith)))

  pub within-plus : {a b : ℕ} {x y : F} → Within R a x → Within R b y → Within R (a + b) (x ⊕ y)
  within-plus (positive k g e) (positive m h f) = positive (k + m) (omega arith) (ap₂ (λ (x y : F). x ⊕ y) e f ∙ sym (count_add k m))
  within-plus (positive k g e) (negative m h f) = difference k m (omega arith) (omega arith) (ap₂ (λ (x y : F). x ⊕ y) e f)
  within-plus (negative k g e) (positive m h f) = difference m k (omega arith) (omega arith) (ap₂ (λ (x y : F). x ⊕ y) e f ∙ L.plus_comm R _ _)
  within-plus (negative k g e) (negative m h f) =
      negative (k + m) (omega arith) (ap₂ (λ (x y : F). x ⊕ y) e f ∙ sym (ap neg (count_add k m) ∙ L.neg-plus R _ _))

  pub within-times : {a b : ℕ} {x y : F} → Within R a x → Within R b y → Within R (a * b) (x ⊗ y)
  within-times (positive k g e) (positive m h f) = positive (k * m) (mul-le-mul g h) (ap₂ (λ (x y : F). x ⊗ y) e f ∙ sym (count-mul k m))
  within-times (positive k g e) (negative m h f) =
      negative (k * m) (mul-le-mul g h) (ap₂ (λ (x y : F). x ⊗ y) e f ∙ L.times-neg R _ _ ∙ ap neg (sym (count-mul k m)))
  within-times (negative k g e) (positive m h f) =
      negative (k * m) (mul-le-mul g h) (ap₂ (λ (x y : F). x ⊗ y) e f ∙ L.neg-times R _ _ ∙ ap neg (sym (count-mul k m)))
  within-times (negative k g e) (negative m h f) =
      positive (k * m) (mul-le-mul g h) (ap₂ (λ (x y : F). x ⊗ y) e f ∙ L.neg-times R _ _ ∙ ap neg (L.times-neg R _ _) ∙ L.neg-neg R _
      ∙ sym (count-mul k m))

  -- a sum whose terms have the weights w i
  pub within-sum : (b n : ℕ) (w : ℕ → ℕ) (f : ℕ → F) → ((i : ℕ) → i < n → Within R (w i * b) (f i)) → Within R (sum_below n w * b) (sum R n f)
  unfolding sum_below sum
  within-sum b zero w f h = within-zero _
  within-sum b (suc n) w f h =
      subst (λ (m : ℕ). Within R m (f 0 ⊕ sum R n (λ i. f (suc i)))) (sym (add-mul (w 0) (sum_below n (λ i. w (suc i))) b))
      (within-plus (h zero (suc-le-suc zero-le)) (within-sum b n (λ i. w (suc i)) (λ i. f (suc i)) (λ i g. h (suc i) (suc-le-suc g))))

  -- ---- coefficients of a product: at most κ times the sum of the |x_i| times the greatest |y_j|

  module _ (p : ℕ) (r : List F) (fits : length r ≤ suc p) where
    pub product-bound : (κ b : ℕ) (w : ℕ → ℕ) → Spread R p r κ → (x y : List F) → length x ≡ suc p → length y ≤ suc p
        → ((k : ℕ) → Within R (w k) (coefficient R x k)) → ((k : ℕ) → Within R b (coefficient R y k))
        → (k : ℕ) → Within R (sum_below (suc p) w * (κ * b)) (coefficient R (product R p r x y) k)
    product-bound κ b w spread x y hx hy bx by k =
        subst (Within R (sum_below (suc p) w * (κ * b)))
        (sym (ap (λ (u : ℕ → F). u k) (coefficient-product R p r fits x y hy) ∙ act-sum R p r x (coefficient R y) k ∙ ap (λ (n : ℕ). sum R n term) hx))
        (within-sum (κ * b) (suc p) w term (λ i h. within-times (bx i) (spread b (coefficient R y) by i k h)))
      where
        term : ℕ → F
        term i = coefficient R x i ⊗ times_power R p r i (coefficient R y) k

  -- X^n = - 1 spreads nothing
  module _ (p : ℕ) where
    step : (b : ℕ) (u : ℕ → F) → ((k : ℕ) → Within R b (u k)) → (k : ℕ) → Within R b (times_x R p (negacyclic R) u k)
    unfolding times_x shifted
    step b u h zero = subst (Within R b) (first (u p)) (within-neg (h p))
      where
        first : (x : F) → neg x ≡ 𝟘 ⊕ x ⊗ neg 𝟙
        first x = simp ring
    step b u h (suc k) = go (ltb k p)
      where
        same : (x y : F) → x ≡ x ⊕ y ⊗ 𝟘
        same x y = simp ring

        go : (c : Bool) → Within R b (cond c (u k) 𝟘 ⊕ u p ⊗ 𝟘)
        go true = subst (Within R b) (same (u k) (u p)) (h k)
        go false = subst (Within R b) (same 𝟘 (u p)) (within-zero b)

    steps : (b : ℕ) (u : ℕ → F) → ((k : ℕ) → Within R b (u k)) → (i k : ℕ) → Within R b (times_power R p (negacyclic R) i u k)
    unfolding times_power
    steps b u h zero k = h k
    steps b u h (suc i) k = step b (times_power R p (negacyclic R) i u) (steps b u h i) k

    pub spread-negacyclic : Spread R p (negacyclic R) 1
    spread-negacyclic b u h i k g = within-up (omega arith) (steps b u h i k)

-- ---- numbers modulo q: a residue is within b exactly when the number's size is at most b

module _ (q : ℕ) (pos : 0 < q) where
  abbrev Z : CommRing (Residue q)
  Z = ℤ/ q pos

  abbrev z : ℕ → Residue q
  z = residue q pos

  infixl 65 ◌⊕◌
  open Z use {◌⊕◌, neg, 𝟘, 𝟙}

  pub count-residue : (k : ℕ) → count Z k ≡ z k
  count-residue zero = count-zero Z ∙ sym (of_zero q pos)
  count-residue (suc k) =
      count-suc Z k ∙ ap₂ (λ (x y : Residue q). x ⊕ y) (sym (of_one q pos)) (count-residue k) ∙ sym (of-add q pos 1 k) ∙ ap z (omega arith)

  pub within-magnitude : (b x : ℕ) → magnitude q x ≤ b → Within Z b (z x)
  within-magnitude b x h = go (dec_le (x % q) b)
    where
      go : Dec (x % q ≤ b) → Within Z b (z x)
      go (yes l) = positive (x % q) l (sym (of-mod q pos x) ∙ sym (count-residue (x % q)))
      go (no l) = negative (q - x % q) (omega arith) (sym (L.neg-neg Z (z x)) ∙ ap neg (sym (of-neg q pos x) ∙ sym (count-residue (q - x % q))))

  pub magnitude-within : (b x : ℕ) → Within Z b (z x) → magnitude q x ≤ b
  magnitude-within b x (positive k h e) = omega (arith, same_of q pos x k (e ∙ count-residue k), mod-le k q)
  magnitude-within b x (negative k h e) =
      go (dec_le 1 (k % q)) (same_of q pos x (q - k % q) (e ∙ ap neg (count-residue k) ∙ sym (of-neg q pos k)))
    where
      go : Dec (1 ≤ k % q) → x % q ≡ (q - k % q) % q → magnitude q x ≤ b
      go (yes l) f =
          let r : (q - k % q) % q ≡ q - k % q = mod-eq_of_lt (omega (arith, mod-lt k pos)) in
          omega (arith, f, r, mod-le k q, mod-lt k pos)
      go (no l) f =
          let r : q - k % q ≡ q = omega arith in
          omega (arith, f, ap (λ (m : ℕ). m % q) r, mod_self q)

  -- a coefficient of x × y is at most κ (|x₀| + .. + |x_p|) max |y_j| in size
  module _ (p : ℕ) (r : List (Residue q)) (times : List ℕ → List ℕ → List ℕ) (is : IsProduct Z z q p r times) where
    pub product-magnitude : (κ b : ℕ) → Spread Z p r κ → (x y : List ℕ) → length x ≡ suc p → length y ≡ suc p
        → ((k : ℕ) → magnitude q (get_or y k 0) ≤ b)
        → (k : ℕ) → magnitude q (get_or (times x y) k 0) ≤ sum_below (suc p) (λ i. magnitude q (get_or x i 0)) * (κ * b)
    product-magnitude κ b spread x y hx hy h k =
        let lx : length (residues q pos x) ≡ suc p = length-map x _ ∙ hx in
        let ly : length (residues q pos y) ≤ suc p = le_of_eq (length-map y _ ∙ hy) in
        magnitude-within _ (get_or (times x y) k 0)
        (subst (Within Z _) (sym (ap (λ (v : List (Residue q)). coefficient Z v k) (is.same x y hx hy)) ∙ of-coefficient q pos (times x y) k)
        (product-bound Z p r is.fits κ b (λ i. magnitude q (get_or x i 0)) spread (residues q pos x) (residues q pos y) lx ly
        (λ i. subst (Within Z _) (sym (of-coefficient q pos x i)) (within-magnitude (magnitude q (get_or x i 0)) (get_or x i 0) (le_refl _)))
        (λ i. subst (Within Z b) (sym (of-coefficient q pos y i)) (within-magnitude b (get_or y i 0) (h i))) k))

-- where X^n = - 1: at most (|x₀| + .. + |x_p|) max |y_j|
pub plain-magnitude : (q : ℕ) → 0 < q → (p b : ℕ) (x y : List ℕ) → length x ≡ suc p → length y ≡ suc p → ((k : ℕ) → magnitude q (get_or y k 0) ≤ b)
    → (k : ℕ) → magnitude q (get_or (N.product q (suc p) x y) k 0) ≤ sum_below (suc p) (λ i. magnitude q (get_or x i 0)) * b
plain-magnitude q pos p b x y hx hy h k =
    subst (λ (m : ℕ). magnitude q (get_or (N.product q (suc p) x y) k 0) ≤ sum_below (suc p) (λ i. magnitude q (get_or x i 0)) * m) (one-mul b)
    (product-magnitude q pos p (negacyclic (ℤ/ q pos)) (N.product q (suc p)) (plain-product q pos p) 1 b (spread-negacyclic (ℤ/ q pos) p) x y hx hy h k)

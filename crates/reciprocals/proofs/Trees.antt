-- The tree of products that `reciprocals` builds, and the inverses on the way back down.
use mathlib.Core.Path.{◌≡◌, refl, sym, ap, ap₂, ◌∙◌, subst, subst₂}
use mathlib.Core.Bool.{Bool, true, false, cond, true≢false}
use mathlib.Core.Logic.{◌≢◌}
use mathlib.Core.List.{List}
use Prim.Native.Nat.{ℕ, zero, suc, ◌+◌, ◌-◌, ◌*◌, ◌%◌, ◌^◌, ◌<◌, ◌≤◌}
use native.Mathlib.Nat.{mod-lt, zero-mul, two-pow-succ}
use native.Mathlib.Decide.{ℕ_discrete, dec_lt}
use native.Mathlib.Numerals.{add-one}
use native.Mathlib.Omega.{arith}
use lib.ListN.{length, get_or, drop, length-append, length-drop}
use lib.Pow.{pow_mono}
use lib.Seq.{get_or-drop, drop_at}
use Rattle.lists.specs.Table.{zeros}
use Rattle.lists.proofs.Tables.{table_is}
use Rattle.lists.proofs.Zeros.{size-zeros}
use Rattle.algebra.specs.Numbers.{mul_mod}
use Rattle.algebra.proofs.Residues.{mod-mul-left}
use Rattle.modq.specs.Modulus.{reciprocal_of}
use Rattle.modq.proofs.Prime.{q-positive}
use Rattle.modq.proofs.Products.{mul_mod_comm, inverse-factor}
use Rattle.modq.proofs.Reciprocals.{reciprocal_is, reciprocal_none, reciprocal-times, reciprocal-below, nonzero-product}
use Rattle.ntt.specs.Layers.{layers}
use Rattle.ntt.proofs.Layers.{layers-zero, layers-suc}
use Rattle.ntt.specs.Spectrum.{q, degree}
use Rattle.reciprocals.specs.Reciprocals.{is_nonzero, has_zero, reciprocals_of}
use Rattle.reciprocals.specs.Tree.{leaves_of, product_below, multiplied_level, products_of, inverted_level, inverted_top, inverses_of}
use Rattle.reciprocals.proofs.Levels.{length_multiplied, multiplied-at, multiplied-below, length-inverted, left_at, right-at}
use Rattle.reciprocals.proofs.HasZero.{nonzero-true, nonzero-false, no_zero, some-zero}

-- ---- the sizes of the levels

pub level-small : (k : ℕ) → k < 10 → 2 ^ k ≤ 512
level-small k h = pow_mono {i = k} {j = 9} (omega arith)

pub level-next : (k : ℕ) → 2 ^ (k + 1) ≡ 2 * 2 ^ k
level-next k = ap (λ (e : ℕ). 2 ^ e) (add-one k) ∙ two-pow-succ k ∙ omega arith

-- ---- up: the products

-- over the leaves t, from level 2^i on, each entry of h is the product of the two below it
pub record Tree (t h : List ℕ) (i : ℕ) : Type 0 where
  pub leaf : (j : ℕ) → j < degree → get_or h (degree + j) 0 ≡ get_or t j 0
  pub product : (e : ℕ) → i ≤ e → e < 10 → (j : ℕ) → j < 2 ^ e → get_or h (2 ^ e + j) 0 ≡ product_below (2 ^ e) h j

tree_none : (l : List ℕ) → Tree (drop degree l) l 10
tree_none l = record { leaf = λ j h. sym (get_or-drop degree l j 0); product = λ e a b. absurd (omega arith) }

tree_more : {t g : List ℕ} {k : ℕ} → k < 10 → length g ≡ 2 * degree → Tree t g (k + 1) → Tree t (multiplied_level (2 ^ k) g) k
tree_more {t} {g} {k} small size old = record {
  leaf = λ j l. below (degree + j) (omega (arith, fits)) ∙ old.leaf j l;
  product = λ e a b. by e a b (ℕ_discrete k e);
}
  where
    h : List ℕ
    h = multiplied_level (2 ^ k) g

    fits : 2 * 2 ^ k ≤ degree
    fits = omega (arith, level-small k small)

    below : (i : ℕ) → 2 * 2 ^ k ≤ i → get_or h i 0 ≡ get_or g i 0
    below = multiplied-below (2 ^ k) g (omega (arith, fits))

    -- what is below level k is as it was
    children : (m : ℕ) → 2 ^ k ≤ m → (j : ℕ) → product_below m g j ≡ product_below m h j
    children m l j = ap₂ (mul_mod q) (sym (below (2 * m + j) (omega arith))) (sym (below (3 * m + j) (omega arith)))

    by : (e : ℕ) → k ≤ e → e < 10 → Dec (k ≡ e) → (j : ℕ) → j < 2 ^ e → get_or h (2 ^ e + j) 0 ≡ product_below (2 ^ e) h j
    by e a b (yes p) =
        subst (λ (i : ℕ). (j : ℕ) → j < 2 ^ i → get_or h (2 ^ i + j) 0 ≡ product_below (2 ^ i) h j) p
        (λ j l. multiplied-at (2 ^ k) g (omega (arith, fits)) j l ∙ children (2 ^ k) (omega arith) j)
    by e a b (no p) = λ j l.
        let far : 2 ^ (k + 1) ≤ 2 ^ e = pow_mono {i = k + 1} {j = e} (omega arith) in
        let next = level-next k in
        below (2 ^ e + j) (omega arith) ∙ old.product e (omega arith) b j l ∙ children (2 ^ e) (omega arith) j

abbrev pub Up : ℕ → List ℕ → List ℕ
Up k = multiplied_level (2 ^ (9 - k))

pub length_up : (k : ℕ) (h : List ℕ) → length h ≡ 2 * degree → length (Up k h) ≡ 2 * degree
length_up k h size = length_multiplied (2 ^ (9 - k)) h (omega (arith, level-small (9 - k) (omega arith))) ∙ size

-- after k levels
tree_levels : (l : List ℕ) → length l ≡ 2 * degree → (k : ℕ) → k ≤ 10 → (length (layers Up k l) ≡ 2 * degree) × Tree (drop degree l) (layers Up k l) (10 - k)
tree_levels l size zero b = rw (layers-zero Up l) (size, tree_none l)
tree_levels l size (suc k) b =
    let (old, tree) = tree_levels l size k (omega arith) in
    let here : 10 - k ≡ 9 - k + 1 = omega arith in
    let next : 10 - suc k ≡ 9 - k = omega arith in
    rw (layers-suc Up k l, next)
    (length_up k _ old, tree_more (omega arith) old (rw here at tree))

length-leaves : (t : List ℕ) → length t ≡ degree → length (leaves_of t) ≡ 2 * degree
unfolding leaves_of
length-leaves t size = length-append (zeros degree) t ∙ ap₂ (λ (x y : ℕ). x + y) (sym (size-zeros degree)) size

drop-leaves : (t : List ℕ) → drop degree (leaves_of t) ≡ t
unfolding leaves_of
drop-leaves t = drop_at (zeros degree) t degree (sym (size-zeros degree))

products-tree : (t : List ℕ) → length t ≡ degree → Tree t (products_of (leaves_of t)) 0
unfolding products_of
products-tree t size = subst (λ (x : List ℕ). Tree x (layers Up 10 (leaves_of t)) 0) (drop-leaves t) (tree_levels (leaves_of t) (length-leaves t size) 10 (omega arith)).1

-- over leaves that q does not divide, q divides no entry
nonzero_entry : (t h : List ℕ) → Tree t h 0 → ((k : ℕ) → k < degree → get_or t k 0 % q ≢ 0)
    → (fuel e : ℕ) → e + fuel ≡ 10 → (j : ℕ) → j < 2 ^ e → get_or h (2 ^ e + j) 0 % q ≢ 0
nonzero_entry t h tree leaf zero e f j l =
    let p : 10 ≡ e = omega arith in
    subst (λ (i : ℕ). (j : ℕ) → j < 2 ^ i → get_or h (2 ^ i + j) 0 % q ≢ 0) p (λ j l. rw (tree.leaf j l) (leaf j l)) j l
nonzero_entry t h tree leaf (suc fuel) e f j l =
    let under = nonzero_entry t h tree leaf fuel (e + 1) (omega arith) in
    rw (tree.product e (omega arith) (omega arith) j l)
    (nonzero-product (get_or h (2 * 2 ^ e + j) 0) (get_or h (3 * 2 ^ e + j) 0) (at_level under j (2 * 2 ^ e + j) (omega arith) (omega arith))
    (at_level under (2 ^ e + j) (3 * 2 ^ e + j) (omega arith) (omega arith)))
  where
    at_level : ((i : ℕ) → i < 2 ^ (e + 1) → get_or h (2 ^ (e + 1) + i) 0 % q ≢ 0) → (i k : ℕ) → i < 2 * 2 ^ e → k ≡ 2 * 2 ^ e + i → get_or h k 0 % q ≢ 0
    at_level under i k a p =
        let next = level-next e in
        let same : 2 ^ (e + 1) + i ≡ k = omega arith in
        subst (λ (x : ℕ). get_or h x 0 % q ≢ 0) same (under i (omega arith))

-- ---- down: the inverses

-- y is the inverse of x below q; or 0, where there is to be none
abbrev Inverse : Bool → ℕ → ℕ → Type 0
Inverse true x y = (mul_mod q x y ≡ 1) × (y < q)
Inverse false x y = y ≡ 0

-- on level m, r has the inverses of the entries of h, if the top of h has one
record Inverses (h r : List ℕ) (m : ℕ) : Type 0 where
  inverse : (j : ℕ) → j < m → Inverse (is_nonzero (get_or h 1 0)) (get_or h (m + j) 0) (get_or r (m + j) 0)

-- of the top
top : (x : ℕ) → Inverse (is_nonzero x) x (reciprocal_of x)
top x = by (ℕ_discrete (x % q) 0)
  where
    by : Dec (x % q ≡ 0) → Inverse (is_nonzero x) x (reciprocal_of x)
    by (yes e) = rw (nonzero-false x e) (reciprocal_none x e)
    by (no e) = rw (nonzero-true x e) (reciprocal-times x e, reciprocal-below x)

inverses-one : (h : List ℕ) → Inverses h (inverted_top h) 1
unfolding inverted_top
inverses-one h = record {
  inverse = λ j l.
      let p : 1 ≡ 1 + j = omega arith in
      subst (λ (k : ℕ). Inverse (is_nonzero (get_or h 1 0)) (get_or h k 0) (get_or (inverted_top h) k 0)) p (top (get_or h 1 0));
}

-- of the two entries x and y below their product
child : (b : Bool) (x y u : ℕ) → Inverse b (mul_mod q x y) u → Inverse b x (mul_mod q u y)
child true x y u i = (inverse-factor q x y u i.0, mod-lt _ q-positive)
child false x y u i = rw (i, zero-mul)

other_child : (b : Bool) (x y u : ℕ) → Inverse b (mul_mod q x y) u → Inverse b y (mul_mod q u x)
other_child b x y u i = child b y x u (rw (mul_mod_comm q y x) i)

-- of the level below
inverses_more : {t h s : List ℕ} {k : ℕ} → k < 10 → length s ≡ 2 * degree → Tree t h 0 → Inverses h s (2 ^ k) → Inverses h (inverted_level (2 ^ k) h s) (2 ^ (k + 1))
inverses_more {t} {h} {s} {k} small size tree old =
    subst (Inverses h r) (sym (level-next k)) (record { inverse = λ j l. by j l (dec_lt j m) })
  where
    m : ℕ
    m = 2 ^ k

    r : List ℕ
    r = inverted_level m h s

    fits : 4 * m ≤ length s
    fits = omega (arith, level-small k small)

    b : Bool
    b = is_nonzero (get_or h 1 0)

    parent : (j : ℕ) → j < m → Inverse b (product_below m h j) (get_or s (m + j) 0)
    parent j l = subst (λ (x : ℕ). Inverse b x (get_or s (m + j) 0)) (tree.product k (omega arith) small j l) (old.inverse j l)

    left : (j : ℕ) → j < m → Inverse b (get_or h (2 * m + j) 0) (get_or r (2 * m + j) 0)
    left j l = subst (Inverse b (get_or h (2 * m + j) 0)) (sym (left_at m h s fits j l)) (child b _ _ (get_or s (m + j) 0) (parent j l))

    right : (j : ℕ) → j < m → Inverse b (get_or h (3 * m + j) 0) (get_or r (3 * m + j) 0)
    right j l = subst (Inverse b (get_or h (3 * m + j) 0)) (sym (right-at m h s fits j l)) (other_child b _ _ (get_or s (m + j) 0) (parent j l))

    by : (j : ℕ) → j < 2 * m → Dec (j < m) → Inverse b (get_or h (2 * m + j) 0) (get_or r (2 * m + j) 0)
    by j l (yes a) = left j a
    by j l (no a) =
        let e : 3 * m + (j - m) ≡ 2 * m + j = omega arith in
        subst (λ (i : ℕ). Inverse b (get_or h i 0) (get_or r i 0)) e (right (j - m) (omega arith))

abbrev pub Down : List ℕ → ℕ → List ℕ → List ℕ
Down h k = inverted_level (2 ^ k) h

pub length_down : (k : ℕ) (h r : List ℕ) → k < 10 → length r ≡ 2 * degree → length (Down h k r) ≡ 2 * degree
length_down k h r small size = length-inverted (2 ^ k) h r (omega (arith, level-small k small)) ∙ size

length-top : (h : List ℕ) → length (inverted_top h) ≡ 2 * degree
unfolding inverted_top
length-top h = ap (λ (k : ℕ). suc (suc k)) (sym (size-zeros (2 * degree - 2)))

-- after k levels
inverses_levels : {t h : List ℕ} → Tree t h 0 → (k : ℕ) → k ≤ 10
    → (length (layers (Down h) k (inverted_top h)) ≡ 2 * degree) × Inverses h (layers (Down h) k (inverted_top h)) (2 ^ k)
inverses_levels {t} {h} tree zero b = rw (layers-zero (Down h) (inverted_top h)) (length-top h, inverses-one h)
inverses_levels {t} {h} tree (suc k) b =
    let (old, inverses) = inverses_levels tree k (omega arith) in
    let here : k + 1 ≡ suc k = add-one k in
    rw (layers-suc (Down h) k (inverted_top h), ← here)
    (length_down k h _ (omega arith) old, inverses_more (omega arith) old tree inverses)

-- ---- the leaves' inverses are the reciprocals, or zeros where q divides a leaf

module _ (t h r : List ℕ) (size : length t ≡ degree) (size-r : length r ≡ 2 * degree) (tree : Tree t h 0) (inverses : Inverses h r degree) where
  pair : (b : Bool) → is_nonzero (get_or h 1 0) ≡ b → (k : ℕ) → k < degree → Inverse b (get_or t k 0) (get_or r (degree + k) 0)
  pair b e k l = subst₂ (λ (c : Bool) (x : ℕ). Inverse c x (get_or r (degree + k) 0)) e (tree.leaf k l) (inverses.inverse k l)

  -- entry k, by whether there is a zero among the leaves and whether the top is zero
  entry : (z b : Bool) → has_zero t ≡ z → is_nonzero (get_or h 1 0) ≡ b → (k : ℕ) → k < degree → get_or r (degree + k) 0 ≡ cond z 0 (reciprocal_of (get_or t k 0))
  entry false true ez eb k l = let i = pair true eb k l in sym (reciprocal_is (get_or t k 0) (get_or r (degree + k) 0) i.1 i.0)
  entry true false ez eb k l = pair false eb k l
  entry false false ez eb k l =
      let nonzero = nonzero_entry t h tree (λ j m. no_zero t ez j (omega arith)) 10 0 (omega arith) 0 (omega arith) in
      absurd (true≢false (sym (nonzero-true _ nonzero) ∙ eb))
  entry true true ez eb k l = absurd (zero-has_none (some-zero t ez))
    where
      zero-has_none : (i : ℕ) × (i < length t) × (get_or t i 0 % q ≡ 0) → ⊥
      zero-has_none (i, g, e) =
          let one : mul_mod q (get_or t i 0) (get_or r (degree + i) 0) ≡ 1 = (pair true eb i (omega arith)).0 in
          let none : mul_mod q (get_or t i 0) (get_or r (degree + i) 0) ≡ 0 =
          sym (mod-mul-left (get_or t i 0) (get_or r (degree + i) 0) q) ∙ ap (λ (x : ℕ). mul_mod q x (get_or r (degree + i) 0)) e
          ∙ ap (λ (x : ℕ). x % q) (zero-mul (get_or r (degree + i) 0)) in
          omega arith

  leaves-inverses : drop degree r ≡ reciprocals_of t
  unfolding reciprocals_of
  leaves-inverses =
      table_is degree _ (drop degree r) 0 (length-drop degree r ∙ omega arith)
      (λ k l. get_or-drop degree r k 0 ∙ entry (has_zero t) (is_nonzero (get_or h 1 0)) refl refl k l)

pub reciprocals_are : (t : List ℕ) → length t ≡ degree → drop degree (inverses_of (products_of (leaves_of t))) ≡ reciprocals_of t
unfolding inverses_of
reciprocals_are t size =
    let h = products_of (leaves_of t) in
    let tree = products-tree t size in
    let (size-r, inverses) = inverses_levels tree 10 (omega arith) in
    leaves-inverses t h (layers (Down h) 10 (inverted_top h)) size size-r tree inverses

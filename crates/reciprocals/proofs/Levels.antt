-- One level of a tree: its entries, and the invariants of the loops that fill it.
use mathlib.Core.Path.{◌≡◌, refl, sym, ap, ap₂, ◌∙◌, subst}
use mathlib.Core.List.{List, ◌++◌}
use Prim.Native.Nat.{ℕ, ◌+◌, ◌-◌, ◌*◌, ◌<◌, ◌≤◌}
use native.Mathlib.Omega.{arith}
use lib.ListN.{length, get_or, take, drop, set, take-append-drop, length-append, length-drop, length-set, get_or-append}
use lib.Seq.{length-take-le, get_or-take, get_or-drop, get_or-append-add, take-set-le, take-set-lt, drop-set-lt, drop-set-add, drop-drop}
use Rattle.lists.specs.Table.{table}
use Rattle.lists.proofs.Tables.{length-table, get_or-table}
use Rattle.lists.proofs.Fill.{Filled, filled_none, filled-more-by, filled-all, FilledHalves, filled-halves_none, filled-halves_more, filled-halves_all}
use Rattle.algebra.specs.Numbers.{mul_mod}
use Rattle.ntt.specs.Spectrum.{q}
use Rattle.reciprocals.specs.Tree.{with_level, product_below, multiplied_level, left_inverse, right_inverse, inverted_level}

-- ---- the entries of a list with a level replaced

behind : (p r : List ℕ) (a j : ℕ) → length p ≡ a → get_or (p ++ r) (a + j) 0 ≡ get_or r j 0
behind p r a j e = ap (λ (m : ℕ). get_or (p ++ r) (m + j) 0) (sym e) ∙ get_or-append-add p r j 0

module _ (m : ℕ) (x g : List ℕ) (size : length x ≡ m) (fits : 2 * m ≤ length g) where
  front : length (take m g) ≡ m
  front = length-take-le m g (omega arith)

  pub length-level : length (with_level m x g) ≡ length g
  length-level =
      length-append (take m g) (x ++ drop (2 * m) g)
      ∙ omega (arith, front, length-append x (drop (2 * m) g), length-drop (2 * m) g)

  pub on_level : (j : ℕ) → j < m → get_or (with_level m x g) (m + j) 0 ≡ get_or x j 0
  on_level j l = behind (take m g) (x ++ drop (2 * m) g) m j front ∙ get_or-append x (drop (2 * m) g) 0 j (omega arith)

  pub below_level : (k : ℕ) → 2 * m ≤ k → get_or (with_level m x g) k 0 ≡ get_or g k 0
  below_level k l =
      let here : k ≡ m + (m + (k - 2 * m)) = omega arith in
      let there : 2 * m + (k - 2 * m) ≡ k = omega arith in
      ap (λ (i : ℕ). get_or (with_level m x g) i 0) here
      ∙ behind (take m g) (x ++ drop (2 * m) g) m (m + (k - 2 * m)) front
      ∙ behind x (drop (2 * m) g) m (k - 2 * m) size
      ∙ get_or-drop (2 * m) g (k - 2 * m) 0
      ∙ ap (λ (i : ℕ). get_or g i 0) there

-- ---- the entries of a level that is made

module _ (m : ℕ) (h : List ℕ) (fits : 2 * m ≤ length h) where
  abbrev x : List ℕ
  x = table m (product_below m h)

  size : length x ≡ m
  size = length-table m (product_below m h)

  pub length_multiplied : length (multiplied_level m h) ≡ length h
  unfolding multiplied_level
  length_multiplied = length-level m x h size fits

  pub multiplied-at : (j : ℕ) → j < m → get_or (multiplied_level m h) (m + j) 0 ≡ product_below m h j
  unfolding multiplied_level
  multiplied-at j l = on_level m x h size fits j l ∙ get_or-table m (product_below m h) j 0 l

  pub multiplied-below : (k : ℕ) → 2 * m ≤ k → get_or (multiplied_level m h) k 0 ≡ get_or h k 0
  unfolding multiplied_level
  multiplied-below k l = below_level m x h size fits k l

module _ (m : ℕ) (h r : List ℕ) (fits : 4 * m ≤ length r) where
  abbrev lefts : List ℕ
  lefts = table m (left_inverse m h r)

  abbrev rights : List ℕ
  rights = table m (right_inverse m h r)

  both : length (lefts ++ rights) ≡ 2 * m
  both = length-append lefts rights ∙ omega (arith, length-table m (left_inverse m h r), length-table m (right_inverse m h r))

  pub length-inverted : length (inverted_level m h r) ≡ length r
  unfolding inverted_level
  length-inverted = length-level (2 * m) (lefts ++ rights) r both (omega arith)

  pub left_at : (j : ℕ) → j < m → get_or (inverted_level m h r) (2 * m + j) 0 ≡ left_inverse m h r j
  unfolding inverted_level
  left_at j l =
      on_level (2 * m) (lefts ++ rights) r both (omega arith) j (omega arith)
      ∙ get_or-append lefts rights 0 j (rw length-table l) ∙ get_or-table m (left_inverse m h r) j 0 l

  pub right-at : (j : ℕ) → j < m → get_or (inverted_level m h r) (3 * m + j) 0 ≡ right_inverse m h r j
  unfolding inverted_level
  right-at j l =
      let place : 3 * m + j ≡ 2 * m + (m + j) = omega arith in
      ap (λ (k : ℕ). get_or (with_level (2 * m) (lefts ++ rights) r) k 0) place
      ∙ on_level (2 * m) (lefts ++ rights) r both (omega arith) (m + j) (omega arith)
      ∙ behind lefts rights m j (length-table m (left_inverse m h r)) ∙ get_or-table m (right_inverse m h r) j 0 l

-- ---- a loop that fills a level

abbrev pub level_of : ℕ → List ℕ → List ℕ
level_of m h = take m (drop m h)

-- but for level m, h is g
pub record Around (m : ℕ) (g h : List ℕ) : Type 0 where
  pub size : length h ≡ length g
  pub before : take m h ≡ take m g
  pub after : drop (2 * m) h ≡ drop (2 * m) g

around_none : (m : ℕ) (g : List ℕ) → Around m g g
around_none m g = record { size = refl; before = refl; after = refl }

around-set : {m : ℕ} {g h : List ℕ} (j v : ℕ) → j < m → Around m g h → Around m g (set h (m + j) v)
around-set {m} {g} {h} j v l a = record {
  size = length-set h (m + j) v ∙ a.size;
  before = take-set-le m h (m + j) v (omega arith) ∙ a.before;
  after = drop-set-lt (2 * m) h (m + j) v (omega arith) ∙ a.after;
}

around_all : {m : ℕ} {x g h : List ℕ} → Around m g h → level_of m h ≡ x → h ≡ with_level m x g
around_all {m} {x} {g} {h} a e =
    let twice : m + m ≡ 2 * m = omega arith in
    let join : List ℕ → List ℕ → List ℕ = λ p r. p ++ r in
    sym (take-append-drop m h)
    ∙ ap₂ join a.before
    (sym (take-append-drop m (drop m h)) ∙ ap₂ join e (drop-drop m m h ∙ ap (λ (k : ℕ). drop k h) twice ∙ a.after))

read-before : {m : ℕ} {g h : List ℕ} → Around m g h → (k : ℕ) → k < m → get_or h k 0 ≡ get_or g k 0
read-before {m} {g} {h} a k l = sym (get_or-take m h k 0 l) ∙ ap (λ (x : List ℕ). get_or x k 0) a.before ∙ get_or-take m g k 0 l

read-after : {m : ℕ} {g h : List ℕ} → Around m g h → (k : ℕ) → 2 * m ≤ k → get_or h k 0 ≡ get_or g k 0
read-after {m} {g} {h} a k l =
    let e : 2 * m + (k - 2 * m) ≡ k = omega arith in
    subst (λ (i : ℕ). get_or h i 0 ≡ get_or g i 0) e
    (sym (get_or-drop (2 * m) h (k - 2 * m) 0) ∙ ap (λ (x : List ℕ). get_or x (k - 2 * m) 0) a.after ∙ get_or-drop (2 * m) g (k - 2 * m) 0)

level-set : (m : ℕ) (h : List ℕ) (j v : ℕ) → j < m → level_of m (set h (m + j) v) ≡ set (level_of m h) j v
level-set m h j v l = ap (take m) (drop-set-add m h j v) ∙ take-set-lt m (drop m h) j v l

length-level_of : (m : ℕ) (g : List ℕ) → 2 * m ≤ length g → length (level_of m g) ≡ m
length-level_of m g fits = length-take-le m (drop m g) (rw length-drop (omega arith))

-- ---- up

-- the first j entries of level m of h are products of entries of g
pub record Multiplied (m : ℕ) (g h : List ℕ) (j : ℕ) : Type 0 where
  pub around : Around m g h
  pub level : Filled m (table m (product_below m g)) (level_of m h) j

pub multiplied_none : (m : ℕ) (g : List ℕ) → 2 * m ≤ length g → Multiplied m g g 0
multiplied_none m g fits = record {
  around = around_none m g;
  level = filled_none (table m (product_below m g)) (level_of m g) (length-table m _) (length-level_of m g fits);
}

pub multiplied_more : {m j v : ℕ} {g h : List ℕ} → j < m → Multiplied m g h j → v ≡ product_below m h j → Multiplied m g (set h (m + j) v) (j + 1)
multiplied_more {m} {j} {v} {g} {h} l old e = record {
  around = around-set j v l old.around;
  level = rw (level-set m h j v l) (filled-more-by (product_below m g) 0 old.level l (e ∙ ap₂ (mul_mod q) (same (2 * m + j) (omega arith)) (same (3 * m + j) (omega arith))));
}
  where
    same : (k : ℕ) → 2 * m ≤ k → get_or h k 0 ≡ get_or g k 0
    same = read-after old.around

pub multiplied_all : {m j : ℕ} {g h : List ℕ} → Multiplied m g h j → m ≤ j → h ≡ multiplied_level m g
unfolding multiplied_level
multiplied_all made l = around_all made.around (filled-all made.level l)

-- ---- down

-- the first j entries of each half of the level below level m of r are inverses of entries of h, if those of s are
pub record Inverted (m : ℕ) (h s r : List ℕ) (j : ℕ) : Type 0 where
  pub around : Around (2 * m) s r
  pub level : FilledHalves m (table m (left_inverse m h s)) (table m (right_inverse m h s)) (level_of (2 * m) r) j

pub inverted_none : (m : ℕ) (h s : List ℕ) → 4 * m ≤ length s → Inverted m h s s 0
inverted_none m h s fits = record {
  around = around_none (2 * m) s;
  level = filled-halves_none m _ _ (level_of (2 * m) s) (length-table m _) (length-table m _) (length-level_of (2 * m) s (omega arith) ∙ omega arith);
}

pub inverted_more : {m j v w : ℕ} {h s r : List ℕ} → j < m → Inverted m h s r j → v ≡ left_inverse m h r j → w ≡ right_inverse m h r j
    → Inverted m h s (set (set r (2 * m + j) v) (3 * m + j) w) (j + 1)
inverted_more {m} {j} {v} {w} {h} {s} {r} l old ev ew = subst (λ (k : ℕ). Inverted m h s (set r' k w) (j + 1)) place (record {
  around = around-set (m + j) w (omega arith) (around-set j v (omega arith) old.around);
  level =
      rw (level-set (2 * m) r' (m + j) w (omega arith), level-set (2 * m) r j v (omega arith))
      (filled-halves_more 0 old.level l (ev ∙ parent (3 * m + j) ∙ sym (get_or-table m _ j 0 l)) (ew ∙ parent (2 * m + j) ∙ sym (get_or-table m _ j 0 l)));
})
  where
    r' : List ℕ
    r' = set r (2 * m + j) v

    place : 2 * m + (m + j) ≡ 3 * m + j
    place = omega arith

    parent : (k : ℕ) → mul_mod q (get_or r (m + j) 0) (get_or h k 0) ≡ mul_mod q (get_or s (m + j) 0) (get_or h k 0)
    parent k = ap (λ (u : ℕ). mul_mod q u (get_or h k 0)) (read-before old.around (m + j) (omega arith))

pub inverted_all : {m j : ℕ} {h s r : List ℕ} → Inverted m h s r j → m ≤ j → r ≡ inverted_level m h s
unfolding inverted_level
inverted_all made l = around_all made.around (filled-halves_all made.level l)

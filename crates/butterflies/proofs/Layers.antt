-- The entries of the layers.
use mathlib.Core.Path.{◌≡◌, refl, sym, ap, ap₂, ◌∙◌}
use mathlib.Core.Bool.{Bool, true, false, cond}
use mathlib.Core.List.{List, ◌++◌}
use Prim.Native.Nat.{ℕ, ◌+◌, ◌*◌, ◌/◌, ◌%◌, ◌<◌, ◌≤◌}
use native.Mathlib.Nat.{mod-lt}
use native.Mathlib.Omega.{arith}
use lib.Dec.{eqb}
use lib.ListN.{length, get_or, take, drop, take-append-drop, length-append, get_or-append}
use lib.Seq.{get_or-append-add}
use Rattle.lists.specs.Table.{table}
use Rattle.lists.proofs.Tables.{length-table, get_or-table, table_same}
use Rattle.lists.proofs.Fill.{FilledHalves}
use Rattle.algebra.specs.Numbers.{add_mod, sub_mod, mul_mod, Below}
use Rattle.algebra.proofs.Numbers.{below-append, below_at, element-table}
use Rattle.butterflies.specs.Layers.{forward_layer, backward_layer, unzipped_layer, unzipped, pairs, halves}

-- two tables one after the other
module _ (h : ℕ) (f g : ℕ → ℕ) (j : ℕ) (l : j < h) where
  in-first : get_or (table h f ++ table h g) j 0 ≡ f j
  in-first = get_or-append (table h f) (table h g) 0 j (rw length-table l) ∙ get_or-table h f j 0 l

  in-second : get_or (table h f ++ table h g) (h + j) 0 ≡ g j
  in-second =
      ap (λ (m : ℕ). get_or (table h f ++ table h g) (m + j) 0) (sym (length-table h f))
      ∙ get_or-append-add (table h f) (table h g) j 0 ∙ get_or-table h g j 0 l

-- a list whose halves are filled has the length of both
pub halves-size : {h : ℕ} {low high out : List ℕ} {i : ℕ} → FilledHalves h low high out i → length out ≡ h + h
halves-size {h} {out = out} f =
    ap length (sym (take-append-drop h out)) ∙ length-append (take h out) (drop h out) ∙ ap₂ (λ (x y : ℕ). x + y) f.first.size f.second.size

pub length_tables : (h : ℕ) (f g : ℕ → ℕ) → length (table h f ++ table h g) ≡ h + h
length_tables h f g = length-append (table h f) (table h g) ∙ omega (arith, length-table h f, length-table h g)

module _ (q h : ℕ) (f : ℕ → ℕ) (a : List ℕ) where
  pub length-forward : length (forward_layer q h f a) ≡ 2 * h
  unfolding forward_layer
  length-forward = length-table (2 * h) _

  pub forward_even : (j : ℕ) → j < h → get_or (forward_layer q h f a) (2 * j) 0 ≡ add_mod q (get_or a j 0) (mul_mod q (f j) (get_or a (h + j) 0))
  unfolding forward_layer
  forward_even j l =
      let half : (2 * j) / 2 ≡ j = omega arith in
      let bit : (2 * j) % 2 ≡ 0 = omega arith in
      get_or-table (2 * h) _ (2 * j) 0 (omega arith) ∙ rw (half, bit)

  pub forward_odd : (j : ℕ) → j < h → get_or (forward_layer q h f a) (2 * j + 1) 0 ≡ sub_mod q (get_or a j 0) (mul_mod q (f j) (get_or a (h + j) 0))
  unfolding forward_layer
  forward_odd j l =
      let half : (2 * j + 1) / 2 ≡ j = omega arith in
      let bit : (2 * j + 1) % 2 ≡ 1 = omega arith in
      get_or-table (2 * h) _ (2 * j + 1) 0 (omega arith) ∙ rw (half, bit)

  abbrev pub sums : ℕ → ℕ
  sums j = add_mod q (get_or a (2 * j) 0) (get_or a (2 * j + 1) 0)

  abbrev pub differences : ℕ → ℕ
  differences j = mul_mod q (f j) (sub_mod q (get_or a (2 * j + 1) 0) (get_or a (2 * j) 0))

  pub backward_is : backward_layer q h f a ≡ table h sums ++ table h differences
  unfolding backward_layer
  backward_is = refl

  pub length-backward : length (backward_layer q h f a) ≡ h + h
  length-backward = rw backward_is (length_tables h sums differences)

  pub backward_low : (j : ℕ) → j < h → get_or (backward_layer q h f a) j 0 ≡ sums j
  backward_low j l = rw backward_is (in-first h sums differences j l)

  pub backward_high : (j : ℕ) → j < h → get_or (backward_layer q h f a) (h + j) 0 ≡ differences j
  backward_high j l = rw backward_is (in-second h sums differences j l)

  -- the entries after a layer are below q
  module _ (pos : 0 < q) where
    pub below-forward : Below q (forward_layer q h f a)
    unfolding forward_layer
    below-forward = (element-table q (2 * h) _ (λ p. either (eqb (p % 2) 0) (mod-lt _ pos) (mod-lt _ pos))).below
      where
        either : (b : Bool) {x y : ℕ} → x < q → y < q → cond b x y < q
        either true l g = l
        either false l g = g

    pub below-backward : Below q (backward_layer q h f a)
    below-backward =
        rw backward_is
        (below-append q (table h sums) (table h differences)
        (element-table q h sums (λ j. mod-lt _ pos)).below (element-table q h differences (λ j. mod-lt _ pos)).below)

module _ (h : ℕ) (a : List ℕ) where
  abbrev pub evens : ℕ → ℕ
  evens j = get_or a (2 * j) 0

  abbrev pub odds : ℕ → ℕ
  odds j = get_or a (2 * j + 1) 0

  pub unzipped_is : unzipped h a ≡ table h evens ++ table h odds
  unfolding unzipped
  unzipped_is = refl

  pub length-unzipped : length (unzipped h a) ≡ h + h
  length-unzipped = rw unzipped_is (length_tables h evens odds)

  pub unzipped_low : (j : ℕ) → j < h → get_or (unzipped h a) j 0 ≡ get_or a (2 * j) 0
  unzipped_low j l = rw unzipped_is (in-first h evens odds j l)

  pub unzipped_high : (j : ℕ) → j < h → get_or (unzipped h a) (h + j) 0 ≡ get_or a (2 * j + 1) 0
  unzipped_high j l = rw unzipped_is (in-second h evens odds j l)

  pub below-unzipped : (q : ℕ) → 0 < q → Below q a → Below q (unzipped h a)
  below-unzipped q pos b =
      rw unzipped_is
      (below-append q (table h evens) (table h odds)
      (element-table q h evens (λ j. below_at q pos a b (2 * j))).below (element-table q h odds (λ j. below_at q pos a b (2 * j + 1))).below)

-- numbers of two halves, taken apart again
module _ (h : ℕ) where
  abbrev pub low_halves : List ℕ → ℕ → ℕ
  low_halves v j = get_or v j 0 % 65536

  abbrev pub high_halves : List ℕ → ℕ → ℕ
  high_halves v j = get_or v j 0 / 65536

  pub halves_is : (v : List ℕ) → halves h v ≡ table h (low_halves v) ++ table h (high_halves v)
  unfolding halves
  halves_is v = refl

  pub pairs_is : (a : List ℕ) → pairs h a ≡ table h (λ j. evens h a j + 65536 * odds h a j)
  unfolding pairs
  pairs_is a = refl

  pub length_pairs : (a : List ℕ) → length (pairs h a) ≡ h
  length_pairs a = rw (pairs_is a) (length-table h _)

  pub halves_of-pairs : (q : ℕ) → 0 < q → q ≤ 65536 → (a v : List ℕ) → Below q a → v ≡ pairs h a → halves h v ≡ unzipped h a
  halves_of-pairs q pos few a v b e =
      let entry : (j : ℕ) → j < h → get_or v j 0 ≡ evens h a j + 65536 * odds h a j =
      λ j l. ap (λ (x : List ℕ). get_or x j 0) (e ∙ pairs_is a) ∙ get_or-table h _ j 0 l in
      let even : (j : ℕ) → evens h a j < q = λ j. below_at q pos a b (2 * j) in
      halves_is v
      ∙ ap₂ (λ (x y : List ℕ). x ++ y)
      (table_same h (low_halves v) (evens h a) (λ j l. omega (arith, entry j l, even j)))
      (table_same h (high_halves v) (odds h a) (λ j l. omega (arith, entry j l, even j)))
      ∙ sym (unzipped_is h a)

-- a layer back, from the entries at even and at odd places
module _ (q h : ℕ) (f : ℕ → ℕ) (p : List ℕ) where
  abbrev pub lows : ℕ → ℕ
  lows j = add_mod q (get_or p j 0) (get_or p (h + j) 0)

  abbrev pub highs : ℕ → ℕ
  highs j = mul_mod q (f j) (sub_mod q (get_or p (h + j) 0) (get_or p j 0))

  pub unzipped_layer_is : unzipped_layer q h f p ≡ table h lows ++ table h highs
  unfolding unzipped_layer
  unzipped_layer_is = refl

  pub backward_of-unzipped : (a : List ℕ) → p ≡ unzipped h a → unzipped_layer q h f p ≡ backward_layer q h f a
  backward_of-unzipped a e =
      let x : (j : ℕ) → j < h → get_or p j 0 ≡ get_or a (2 * j) 0 = λ j l. ap (λ (s : List ℕ). get_or s j 0) e ∙ unzipped_low h a j l in
      let y : (j : ℕ) → j < h → get_or p (h + j) 0 ≡ get_or a (2 * j + 1) 0 = λ j l. ap (λ (s : List ℕ). get_or s (h + j) 0) e ∙ unzipped_high h a j l in
      unzipped_layer_is
      ∙ ap₂ (λ (s t : List ℕ). s ++ t)
      (table_same h lows (sums q h f a) (λ j l. ap₂ (add_mod q) (x j l) (y j l)))
      (table_same h highs (differences q h f a) (λ j l. ap₂ (λ (m n : ℕ). mul_mod q (f j) (sub_mod q m n)) (y j l) (x j l)))
      ∙ sym (backward_is q h f a)

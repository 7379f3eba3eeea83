-- The fields of a text.
use mathlib.Core.Path.{◌≡◌, sym, ap, ◌∙◌}
use mathlib.Core.Bool.{true, false, ◌&&◌}
use mathlib.Core.List.{List, [], ◌∷◌}
use Prim.Native.Nat.{ℕ, zero, suc, ◌+◌, ◌-◌, ◌≤◌, ◌<◌, min}
use native.Mathlib.Decide.{dec_le}
use native.Mathlib.Nat.{add-zero, zero-add}
use native.Mathlib.Numerals.{add-one}
use native.Mathlib.Omega.{arith}
use lib.Dec.{eqb}
use lib.ListN.{length, get_or, take, drop, length-drop, drop_of_length-le}
use lib.Seq.{take_all, take-nil, drop-cons}
use borrow.Author.Tests.{eqb-true, eq-eqb, ne_eqb}
use Rattle.lists.proofs.Both.{both}
use Rattle.lists.proofs.Parts.{take-to-end}
use Rattle.vectors.specs.Fields.{end_from, start, field, has_field, sized_from, is_sized}

pub start-within : (i : ℕ) (text : List ℕ) → start i text ≤ length text
unfolding start
start-within zero text = omega arith
start-within (suc i) text = omega arith

pub start-next : (i : ℕ) (text : List ℕ) → min (end_from (start i text) text) (length text) ≡ start (i + 1) text
unfolding start
start-next i text = ap (λ (k : ℕ). start k text) (sym (add-one i))

-- the front of a text, cut off at its end
pub take-cut : (n : ℕ) (text : List ℕ) → take (min n (length text)) text ≡ take n text
take-cut n text = by (dec_le n (length text))
  where
    by : Dec (n ≤ length text) → take (min n (length text)) text ≡ take n text
    by (yes within) = let whole : min n (length text) ≡ n = omega arith in rw whole
    by (no past) = take_all (min n (length text)) text (omega arith) ∙ sym (take_all n text (omega arith))

-- a part of a text from a to b, both cut off at its end
pub part_cut : (a n : ℕ) (text : List ℕ) → take (min (a + n) (length text) - min a (length text)) (drop (min a (length text)) text) ≡ take n (drop a text)
part_cut a n text = by (dec_le a (length text)) (dec_le (a + n) (length text))
  where
    by : Dec (a ≤ length text) → Dec (a + n ≤ length text)
        → take (min (a + n) (length text) - min a (length text)) (drop (min a (length text)) text) ≡ take n (drop a text)
    by (no past) end =
        let e : min a (length text) ≡ length text = omega arith in
        let none : min (a + n) (length text) - length text ≡ 0 = omega arith in
        rw (e, none, drop_of_length-le text {i = a} (omega arith)) (sym (take-nil n))
    by (yes within) (yes whole) =
        let e : min a (length text) ≡ a = omega arith in
        let size : min (a + n) (length text) - a ≡ n = omega arith in
        rw (e, size)
    by (yes within) (no cut) =
        let e : min a (length text) ≡ a = omega arith in
        let size : min (a + n) (length text) - a ≡ length text - a = omega arith in
        rw (e, size) (take-to-end a text ∙ sym (take_all n (drop a text) (omega (arith, length-drop a text))))

-- a text that is not empty has a first field, or what stands for it
pub start-some : (i : ℕ) (text : List ℕ) → 0 < length text → 0 < i → 0 < start i text
unfolding start
start-some zero text h z = absurd (omega arith)
start-some (suc i) text h z = omega arith

-- ---- fields of given sizes

module _ (sizes text : List ℕ) (k : ℕ) (h : k < length sizes) where
  -- the test of field k, and of those behind it
  sized-next : sized_from k (drop k sizes) text ≡ has_field k text && eqb (length (field k text)) (get_or sizes k 0) && sized_from (k + 1) (drop (k + 1) sizes) text
  unfolding sized_from
  sized-next = rw (drop-cons sizes k 0 h, add-one)

  pub sized_more : has_field k text ≡ true → length (field k text) ≡ get_or sizes k 0
      → sized_from k (drop k sizes) text ≡ sized_from (k + 1) (drop (k + 1) sizes) text
  sized_more whole size = sized-next ∙ rw (whole, eq-eqb (length (field k text)) (get_or sizes k 0) size)

  pub sized_cut : has_field k text ≡ false → false ≡ sized_from k (drop k sizes) text
  sized_cut cut = rw (sized-next, cut)

  pub sized_other : has_field k text ≡ true → (length (field k text) ≡ get_or sizes k 0 → ⊥) → false ≡ sized_from k (drop k sizes) text
  sized_other whole other = rw (sized-next, whole, ne_eqb (length (field k text)) (get_or sizes k 0) other)

pub sized_all : (sizes text : List ℕ) (k : ℕ) → length sizes ≤ k → true ≡ sized_from k (drop k sizes) text
unfolding sized_from
sized_all sizes text k h = rw (drop_of_length-le sizes {i = k} h)

-- a field of a text whose fields have these sizes
field_sized : (j : ℕ) (sizes text : List ℕ) (i : ℕ) → sized_from j sizes text ≡ true → i < length sizes → length (field (j + i) text) ≡ get_or sizes i 0
unfolding sized_from
field_sized j [] text i e h = absurd (omega arith)
field_sized j (size ∷ sizes) text zero e h =
    let first = (both (has_field j text && eqb (length (field j text)) size) (sized_from (suc j) sizes text) e).0 in
    rw (add-zero j) (eqb-true (length (field j text)) size (both (has_field j text) (eqb (length (field j text)) size) first).1)
field_sized j (size ∷ sizes) text (suc i) e h =
    let place : j + suc i ≡ suc j + i = omega arith in
    let rest = (both (has_field j text && eqb (length (field j text)) size) (sized_from (suc j) sizes text) e).1 in
    rw place (field_sized (suc j) sizes text i rest (omega arith))

pub sized-field : (sizes text : List ℕ) (i : ℕ) → is_sized sizes text ≡ true → i < length sizes → length (field i text) ≡ get_or sizes i 0
sized-field sizes text i e h = rw (zero-add i) at (field_sized 0 sizes text i e h)

-- The invariant of a loop that writes the front of a table into an array that holds the rest of it from the start.
use mathlib.Core.Path.{◌≡◌, sym, ap, ap₂, subst, ◌∙◌}
use mathlib.Core.List.{List, ◌++◌}
use Prim.Native.Nat.{ℕ, ◌+◌, ◌-◌, ◌<◌, ◌≤◌}
use native.Mathlib.Omega.{arith}
use lib.ListN.{take, drop, set, replicate, length-replicate, length-drop, get_or-replicate, take-append-drop}
use lib.Seq.{get_or-drop, length-take-le, take-set-lt, drop-set-lt}
use Rattle.lists.specs.Table.{table}
use Rattle.lists.proofs.Tables.{length-table, table_is, table-append}
use Rattle.lists.proofs.Fill.{Filled, filled_none, filled-more-by, filled-all}

-- of the n entries of the table, the first i stand in `out`, and all from m on
pub record FrontFilled {A : Type 0} (n m : ℕ) (g : ℕ → A) (out : List A) (i : ℕ) : Type 0 where
  pub front : Filled m (table m g) (take m out) i
  pub rest : drop m out ≡ table (n - m) (λ j. g (m + j))

module _ {A : Type 0} {n m : ℕ} (g : ℕ → A) (within : m ≤ n) where
  -- the array starts as n times z, and so does the table from m on
  pub front-filled-start : {out : List A} (z : A) → out ≡ replicate n z → ((k : ℕ) → m ≤ k → k < n → g k ≡ z) → FrontFilled n m g out 0
  front-filled-start {out} z e same = rw e record {
    front = filled_none (table m g) (take m (replicate n z)) (length-table m g) (length-take-le m (replicate n z) (rw (length-replicate n z) within));
    rest =
        table_is (n - m) (λ j. g (m + j)) (drop m (replicate n z)) z (length-drop m (replicate n z) ∙ ap (λ (k : ℕ). k - m) (length-replicate n z))
        (λ j h. get_or-drop m (replicate n z) j z ∙ get_or-replicate n (m + j) z z (omega arith) ∙ sym (same (m + j) (omega arith) (omega arith)));
  }

  pub front-filled-all : {out : List A} {i : ℕ} → FrontFilled n m g out i → m ≤ i → out ≡ table n g
  front-filled-all {out} f h =
      let whole : m + (n - m) ≡ n = omega arith in
      sym (take-append-drop m out)
      ∙ ap₂ (λ (a b : List A). a ++ b) (filled-all f.front h) f.rest
      ∙ sym (table-append m (n - m) g)
      ∙ ap (λ (k : ℕ). table k g) whole

-- the next entry is written, and e entries are
pub front-filled-next : {A : Type 0} {n m : ℕ} (g : ℕ → A) {out : List A} {i : ℕ} {v : A} {e : ℕ} → FrontFilled n m g out i → i < m → v ≡ g i
    → i + 1 ≡ e → FrontFilled n m g (set out i v) e
front-filled-next {n = n} {m = m} g {out} {i} {v} f h p e =
    subst (FrontFilled n m g (set out i v)) e
    record {
      front = rw (take-set-lt m out i v h) (filled-more-by g v f.front h p);
      rest = rw (drop-set-lt m out i v h) f.rest;
    }

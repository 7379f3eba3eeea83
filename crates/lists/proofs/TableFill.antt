-- General laws: tables whose entries are zero from some place on, loops that fill a table by several entries a turn, and scans that
-- leave out a tail which passes.
use mathlib.Core.Path.{◌≡◌, sym, ap, subst, ◌∙◌}
use mathlib.Core.List.{List, ◌++◌}
use Prim.Native.Nat.{ℕ, ◌+◌, ◌-◌, ◌<◌, ◌≤◌}
use native.Mathlib.Omega.{arith}
use lib.ListN.{set}
use Rattle.lists.specs.Table.{table, zeros}
use Rattle.lists.proofs.Tables.{length-table, get_or-table, table-append}
use Rattle.lists.proofs.Zeros.{zeros-table}
use Rattle.lists.proofs.Fill.{Filled, filled-more-by, ZeroFilled, zero-filled_none, zero-filled_more, zero-filled_all}

-- a table whose rule gives 0 from m on
pub table-zeros : (m n : ℕ) (f : ℕ → ℕ) → m ≤ n → ((k : ℕ) → m ≤ k → k < n → f k ≡ 0) → table m f ++ zeros (n - m) ≡ table n f
table-zeros m n f h z =
    let e : m + (n - m) ≡ n = omega arith in
    ap (λ (l : List ℕ). table m f ++ l) (zeros-table (n - m) (λ j. f (m + j)) (λ j l. z (m + j) (omega arith) (omega arith)))
    ∙ sym (table-append m (n - m) f)
    ∙ ap (λ (k : ℕ). table k f) e

-- the next entry of a table is written, and e entries are
pub filled_next : {n : ℕ} (g : ℕ → ℕ) {out : List ℕ} {i v e : ℕ} → Filled n (table n g) out i → i < n → v ≡ g i → i + 1 ≡ e
    → Filled n (table n g) (set out i v) e
filled_next {n} g {out} {i} {v} f h p e = subst (Filled n (table n g) (set out i v)) e (filled-more-by g 0 f h p)

-- ---- the first m entries of a table of n, in an array of n zeros

pub zero-filled-start : (n m : ℕ) (g : ℕ → ℕ) (out : List ℕ) → m ≤ n → out ≡ zeros n → ZeroFilled n (table m g) out 0
zero-filled-start n m g out h e = zero-filled_none n (table m g) out (rw (length-table m g) h) e

pub zero-filled-next : {n m : ℕ} (g : ℕ → ℕ) {out : List ℕ} {i v e : ℕ} → ZeroFilled n (table m g) out i → i < m → v ≡ g i → i + 1 ≡ e
    → ZeroFilled n (table m g) (set out i v) e
zero-filled-next {n} {m} g {out} {i} {v} f h p e =
    subst (ZeroFilled n (table m g) (set out i v)) e
    (zero-filled_more f (rw (length-table m g) h) (p ∙ sym (get_or-table m g i 0 h)))

pub zero-filled-table : {n m : ℕ} (g : ℕ → ℕ) {out : List ℕ} {i : ℕ} → ZeroFilled n (table m g) out i → m ≤ i → m ≤ n
    → ((k : ℕ) → m ≤ k → k < n → g k ≡ 0) → out ≡ table n g
zero-filled-table {n} {m} g f h l z =
    zero-filled_all f (rw (length-table m g) h) ∙ rw (length-table m g) (table-zeros m n g l z)

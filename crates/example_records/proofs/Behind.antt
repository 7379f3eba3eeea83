-- The zeros behind a record.
use mathlib.Core.Path.{◌≡◌, sym, ap, ◌∙◌}
use Prim.Native.Nat.{ℕ, ◌+◌}
use lib.ListN.{drop, length-replicate, replicate-append-replicate}
use lib.Seq.{drop_at}
use Rattle.lists.specs.Table.{zeros}

pub drop-zeros : (m n : ℕ) → drop m (zeros (m + n)) ≡ zeros n
drop-zeros m n = ap (drop m) (sym (replicate-append-replicate m n 0)) ∙ drop_at (zeros m) (zeros n) m (length-replicate m 0)

-- The tests of lengths and counts in both calls on batches.
use mathlib.Core.Path.{◌≡◌}
use mathlib.Core.Bool.{Bool, true, ◌&&◌, and-eq-true_iff}
use mathlib.Core.Logic.Iff
use mathlib.Core.Logic.{◌↔◌}
use mathlib.Core.List.{List}
use Prim.Native.Nat.{ℕ, ◌≤◌}
use lib.Dec.{eqb, leb}
use lib.ListN.{length}
use borrow.Author.Tests.{leb-true, le-leb}
use Rattle.records.specs.Layout.{header_length}
use Rattle.batch_records.specs.Batches.{batch_overhead, batch_length, most_entries, entries_length, is_count}
use Rattle.batch_records.specs.WellFormed.{Count}
use Rattle.public_keys.specs.PublicKeys.{is_public_length}
use Rattle.keys.specs.Keys.{triple_noise_length}
use Rattle.calls.proofs.Lengths.{header-fits, three-fit}
use Rattle.batch_calls.specs.Calls.{entries}
use Rattle.batch_calls.specs.Promises.{SealingFits, OpeningFits}

-- both of two tests
both-fit : {t u : Bool} {F G : Type 0} → (t ≡ true) ↔ F → (u ≡ true) ↔ G → (t && u ≡ true) ↔ (F × G)
both-fit {t} {u} f g = Iff.trans (and-eq-true_iff t u) (Iff.and f g)

-- a test of order
at-most_iff : (i j : ℕ) → (leb i j ≡ true) ↔ (i ≤ j)
at-most_iff i j = (leb-true i j, le-leb i j)

-- a count is 1 to 255
pub count_iff : (m : ℕ) → (is_count m ≡ true) ↔ Count m
unfolding is_count
count_iff m = both-fit (at-most_iff 1 m) (at-most_iff m most_entries)

-- the buffers beside the entries
pub sealing-fits : (k noise blocks : List ℕ) (room : ℕ)
    → (is_public_length (length k) && eqb (length noise) triple_noise_length && eqb room (batch_length (entries blocks)) ≡ true) ↔ SealingFits k noise blocks room
sealing-fits k noise blocks room = three-fit (is_public_length (length k)) Iff.rfl (length noise) triple_noise_length room (batch_length (entries blocks))

-- a batch has the bytes that stand beside its body at least
pub opening-fits : (k batch noise : List ℕ) (room : ℕ)
    → (leb header_length (length k) && leb batch_overhead (length batch) && eqb (length noise) triple_noise_length && eqb room entries_length ≡ true)
    ↔ OpeningFits k batch noise room
opening-fits k batch noise room =
    Iff.trans
    (three-fit (leb header_length (length k) && leb batch_overhead (length batch))
    (both-fit (header-fits k) (at-most_iff batch_overhead (length batch))) (length noise) triple_noise_length room entries_length)
    (λ ((h1, h2), h3, h4). (h1, h2, h3, h4), λ (h1, h2, h3, h4). ((h1, h2), h3, h4))

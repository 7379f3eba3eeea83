use mathlib.Core.Path.{◌≡◌}
use Prim.Native.Nat.{◌≤◌, ◌-◌, ◌*◌}
use lib.ListN.{length}
use Rattle.lists.specs.Table.{table}
use Rattle.lists.proofs.Fill.{Filled}
use Rattle.shake.specs.Sponge.{permuted}
use Rattle.shake.proofs.Output.{byte_at}
use Rattle.shake.proofs.Sponge.squeeze.Given as goal

abbrev pub invariant-loop-k : goal.invariant-loop-k
invariant-loop-k g l =
    (l.k ≤ l.n) × (l.s ≡ permuted l.k l.initial.s) × Filled (length l.initial.out) (table (length l.initial.out) (byte_at g.row.RATE l.initial.s)) l.out (g.row.RATE * l.k)

abbrev pub decreases-loop-k : goal.decreases-loop-k
decreases-loop-k g l = l.n - l.k

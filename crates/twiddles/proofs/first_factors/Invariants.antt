use Prim.Native.Nat.{◌+◌, ◌-◌}
use lib.ListN.{get_or}
use Rattle.lists.specs.Table.{table}
use Rattle.lists.proofs.Fill.{Filled}
use Rattle.twiddles.proofs.first_factors.Given as goal

abbrev pub invariant-loop-i : goal.invariant-loop-i
invariant-loop-i l = Filled l.n (table l.n (λ i'. get_or l.f (l.n + i') 0)) l.w l.i

abbrev pub decreases-loop-i : goal.decreases-loop-i
decreases-loop-i l = l.n - l.i

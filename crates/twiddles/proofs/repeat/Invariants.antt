use Prim.Native.Nat.{◌-◌, ◌^◌, ◌≤◌}
use Rattle.lists.proofs.Fill.{Filled}
use Rattle.twiddles.proofs.Repeats.{row}
use Rattle.twiddles.proofs.repeat.Given as goal

abbrev pub invariant-loop-d : goal.invariant-loop-d
invariant-loop-d l = (l.k ≤ l.d) × (l.d ≤ 9) × Filled 512 (row l.initial.w l.k) l.w (2 ^ l.d)

abbrev pub decreases-loop-d : goal.decreases-loop-d
decreases-loop-d l = 9 - l.d

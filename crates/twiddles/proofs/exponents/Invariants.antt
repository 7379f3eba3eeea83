use Prim.Native.Nat.{◌-◌, ◌≤◌}
use Rattle.lists.proofs.Fill.{Filled}
use Rattle.lists.specs.Table.{table}
use Rattle.algebra.specs.Halving.{reversed}
use Rattle.twiddles.proofs.exponents.Given as goal

abbrev pub invariant-loop-m : goal.invariant-loop-m
invariant-loop-m l = (2 ≤ l.m) × Filled 1024 (table 1024 (reversed 10)) l.r l.m

abbrev pub decreases-loop-m : goal.decreases-loop-m
decreases-loop-m l = 1024 - l.m

use Prim.Native.Nat.{◌-◌}
use Rattle.lists.specs.Table.{table}
use Rattle.lists.proofs.Fill.{FilledHalves}
use Rattle.butterflies.proofs.Layers.{low_halves, high_halves}
use Rattle.butterflies.proofs.halves.Given as goal

abbrev pub invariant-loop-j : goal.invariant-loop-j
invariant-loop-j l = FilledHalves 512 (table 512 (low_halves 512 l.v)) (table 512 (high_halves 512 l.v)) l.p l.j

abbrev pub decreases-loop-j : goal.decreases-loop-j
decreases-loop-j l = 512 - l.j

use Prim.Native.Nat.{◌-◌}
use Rattle.lists.specs.Table.{table}
use Rattle.lists.proofs.Fill.{FilledHalves}
use Rattle.twiddles.specs.Powers.{q}
use Rattle.twiddles.specs.Factors.{backward_factor}
use Rattle.butterflies.proofs.Layers.{lows, highs}
use Rattle.butterflies.proofs.backward_layer.Given as goal

abbrev pub invariant-loop-j : goal.invariant-loop-j
invariant-loop-j l = FilledHalves 512 (table 512 (lows q 512 (backward_factor l.k) l.p)) (table 512 (highs q 512 (backward_factor l.k) l.p)) l.r l.j

abbrev pub decreases-loop-j : goal.decreases-loop-j
decreases-loop-j l = 512 - l.j

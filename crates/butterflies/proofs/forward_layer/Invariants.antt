use Prim.Native.Nat.{◌-◌, ◌*◌}
use Rattle.lists.proofs.Fill.{Filled}
use Rattle.twiddles.specs.Powers.{q}
use Rattle.twiddles.specs.Factors.{forward_factor}
use Rattle.butterflies.specs.Layers.{forward_layer}
use Rattle.butterflies.proofs.forward_layer.Given as goal

abbrev pub invariant-loop-j : goal.invariant-loop-j
invariant-loop-j l = Filled 1024 (forward_layer q 512 (forward_factor l.k) l.a) l.r (2 * l.j)

abbrev pub decreases-loop-j : goal.decreases-loop-j
decreases-loop-j l = 512 - l.j

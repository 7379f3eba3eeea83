use mathlib.Core.Path.{◌≡◌}
use Prim.Native.Nat.{◌*◌, ◌-◌, ◌≤◌}
use lib.ListN.{length}
use Rattle.ntt.specs.Layers.{layers}
use Rattle.ntt.specs.Spectrum.{degree}
use Rattle.reciprocals.proofs.Trees.{Up}
use Rattle.reciprocals.proofs.products.Given as goal

abbrev pub invariant-loop-k : goal.invariant-loop-k
invariant-loop-k l = (l.k ≤ 10) × (length l.h ≡ 2 * degree) × (l.h ≡ layers Up l.k l.initial.h)

abbrev pub decreases-loop-k : goal.decreases-loop-k
decreases-loop-k l = 10 - l.k

use mathlib.Core.Path.{◌≡◌}
use Prim.Native.Nat.{◌*◌, ◌-◌, ◌≤◌}
use lib.ListN.{length}
use Rattle.ntt.specs.Layers.{layers}
use Rattle.ntt.specs.Spectrum.{degree}
use Rattle.reciprocals.specs.Tree.{inverted_top}
use Rattle.reciprocals.proofs.Trees.{Down}
use Rattle.reciprocals.proofs.inverses.Given as goal

abbrev pub invariant-loop-k : goal.invariant-loop-k
invariant-loop-k l = (l.k ≤ 10) × (length l.r ≡ 2 * degree) × (l.r ≡ layers (Down l.h) l.k (inverted_top l.h))

abbrev pub decreases-loop-k : goal.decreases-loop-k
decreases-loop-k l = 10 - l.k

use mathlib.Core.Path.{◌≡◌}
use Prim.Native.Nat.{◌≤◌, ◌-◌}
use Rattle.shake.specs.Sponge.{absorbed}
use Rattle.shake.specs.Shake.{padded}
use Rattle.shake.proofs.Sponge.absorb.Given as goal

abbrev pub invariant-loop-k : goal.invariant-loop-k
invariant-loop-k g l = (l.k ≤ l.n) × (l.s ≡ absorbed g.row.RATE l.k (padded g.row.RATE l.input))

abbrev pub decreases-loop-k : goal.decreases-loop-k
decreases-loop-k g l = l.n - l.k

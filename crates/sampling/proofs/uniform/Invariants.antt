use Prim.Native.Nat.{◌+◌, ◌-◌, ◌*◌, ◌<◌, ◌≤◌}
use Rattle.ring.specs.Ring.{q, n}
use Rattle.sampling.proofs.Reading.{Read}
use Rattle.sampling.proofs.uniform.Given as goal

abbrev pub invariant-loop-j : goal.invariant-loop-j
invariant-loop-j l = (l.j ≤ 84) × (l.k < 16) × (l.count < n) × Read q n l.stream (84 * l.k + l.j) l.value l.count

abbrev pub decreases-loop-j : goal.decreases-loop-j
decreases-loop-j l = 84 - l.j

abbrev pub invariant-blocks-2 : goal.invariant-blocks-2
invariant-blocks-2 l = (l.k ≤ 16) × (l.count < n) × Read q n l.stream (84 * l.k) l.value l.count

abbrev pub decreases-blocks-2 : goal.decreases-blocks-2
decreases-blocks-2 l = 16 - l.k

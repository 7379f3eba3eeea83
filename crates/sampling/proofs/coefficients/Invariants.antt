use mathlib.Core.List.{map}
use Prim.Native.Nat.{◌-◌}
use Rattle.lists.proofs.Fill.{Filled}
use Rattle.ring.specs.Ring.{n}
use Rattle.ring.specs.Centred.{residue}
use Rattle.sampling.proofs.coefficients.Given as goal

abbrev pub invariant-loop-i : goal.invariant-loop-i
invariant-loop-i l = Filled n (map residue l.values) l.t l.i

abbrev pub decreases-loop-i : goal.decreases-loop-i
decreases-loop-i l = n - l.i

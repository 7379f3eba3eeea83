use Prim.Native.Nat.{◌-◌}
use Rattle.lists.proofs.Fill.{Filled}
use Rattle.algebra.specs.Numbers.{scale}
use Rattle.ntt.specs.Spectrum.{q, degree, inverse_degree, pointwise}
use Rattle.ntt.proofs.divided_pointwise.Given as goal

abbrev pub invariant-loop-i : goal.invariant-loop-i
invariant-loop-i l = Filled 1024 (scale q degree inverse_degree (pointwise l.a l.b)) l.r l.i

abbrev pub decreases-loop-i : goal.decreases-loop-i
decreases-loop-i l = 1024 - l.i

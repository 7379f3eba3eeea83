use Prim.Native.Nat.{◌-◌}
use Rattle.lists.proofs.Fill.{Filled}
use Rattle.algebra.specs.Numbers.{reduced}
use Rattle.ntt.specs.Spectrum.{q, degree}
use Rattle.ntt.proofs.reduced.Given as goal

abbrev pub invariant-loop-i : goal.invariant-loop-i
invariant-loop-i l = Filled 1024 (reduced q degree l.a) l.r l.i

abbrev pub decreases-loop-i : goal.decreases-loop-i
decreases-loop-i l = 1024 - l.i

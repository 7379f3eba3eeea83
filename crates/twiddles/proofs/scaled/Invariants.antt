use Prim.Native.Nat.{◌-◌}
use Rattle.lists.proofs.Fill.{Filled}
use Rattle.algebra.specs.Numbers.{scale}
use Rattle.modq.specs.Montgomery.{from_montgomery}
use Rattle.twiddles.specs.Powers.{q, degree}
use Rattle.twiddles.proofs.scaled.Given as goal

abbrev pub invariant-loop-i : goal.invariant-loop-i
invariant-loop-i l = Filled 1024 (scale q degree (from_montgomery l.w) l.a) l.r l.i

abbrev pub decreases-loop-i : goal.decreases-loop-i
decreases-loop-i l = 1024 - l.i

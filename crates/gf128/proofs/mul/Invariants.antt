use mathlib.Core.Path.{◌≡◌}
use Prim.Native.Nat.{◌-◌, ◌/◌, ◌^◌, ◌≤◌}
use Rattle.gf128.specs.Words.{value}
use Rattle.gf128.proofs.Horner.{horner}
use Rattle.gf128.proofs.mul.Given as goal

abbrev pub invariant-loop-i : goal.invariant-loop-i
invariant-loop-i l = (l.i ≤ 128) × (value l.r ≡ horner (128 - l.i) (value l.a) (value l.b / 2 ^ l.i))

abbrev pub decreases-loop-i : goal.decreases-loop-i
decreases-loop-i l = l.i

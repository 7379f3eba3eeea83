use mathlib.Core.Path.{◌≡◌}
use Prim.Native.Nat.{◌≤◌, ◌*◌, ◌-◌}
use Rattle.keccak.proofs.Complementing.{rounds_from}
use Rattle.keccak.proofs.two_rounds.Given as goal

abbrev pub invariant-loop-j : goal.invariant-loop-j
invariant-loop-j l = (l.j ≤ 2) × (l.s ≡ rounds_from (2 * l.i) l.j l.initial.s)

abbrev pub decreases-loop-j : goal.decreases-loop-j
decreases-loop-j l = 2 - l.j

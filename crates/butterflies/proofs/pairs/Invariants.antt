use Prim.Native.Nat.{◌+◌, ◌-◌, ◌*◌}
use Rattle.lists.specs.Table.{table}
use Rattle.lists.proofs.Fill.{Filled}
use Rattle.butterflies.proofs.Layers.{evens, odds}
use Rattle.butterflies.proofs.pairs.Given as goal

abbrev pub invariant-loop-j : goal.invariant-loop-j
invariant-loop-j l = Filled 512 (table 512 (λ j'. evens 512 l.a j' + 65536 * odds 512 l.a j')) l.v l.j

abbrev pub decreases-loop-j : goal.decreases-loop-j
decreases-loop-j l = 512 - l.j

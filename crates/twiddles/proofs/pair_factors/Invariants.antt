use Prim.Native.Nat.{◌-◌, ◌*◌, ◌/◌, ◌%◌}
use lib.ListN.{get_or}
use Rattle.lists.specs.Table.{table}
use Rattle.lists.proofs.Fill.{Filled}
use Rattle.twiddles.specs.Factors.{block_of}
use Rattle.twiddles.proofs.pair_factors.Given as goal

abbrev pub invariant-loop-k : goal.invariant-loop-k
invariant-loop-k l = Filled 5120 (table 5120 (λ i. get_or l.f (block_of (i / 512) (i % 512)) 0)) l.w (512 * l.k)

abbrev pub decreases-loop-k : goal.decreases-loop-k
decreases-loop-k l = 10 - l.k

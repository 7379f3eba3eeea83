-- What SHAKE256 puts out are bytes.
use mathlib.Core.List.{List}
use Prim.Native.Nat.{ℕ, ◌<◌}
use native.Mathlib.Nat.{mod-lt}
use native.Mathlib.Omega.{arith}
use lib.ListN.{get_or}
use Rattle.lists.specs.Table.{table}
use Rattle.algebra.proofs.Numbers.{below_at, element-table}
use Rattle.shake.specs.Sponge.{absorb}
use Rattle.shake.specs.Shake.{padded, shake, shake256}
use Rattle.shake.proofs.Output.{byte_at, squeeze-table, rate256}

pub shake256_byte : (m : List ℕ) (d k : ℕ) → get_or (shake256 m d) k 0 < 256
unfolding shake256 shake
shake256_byte m d k =
    let s = absorb 136 (padded 136 m) in
    rw (squeeze-table 136 rate256 s d)
    (below_at 256 (omega arith) (table d (byte_at 136 s)) (element-table 256 d (byte_at 136 s) (λ i. mod-lt _ (omega arith))).below k)

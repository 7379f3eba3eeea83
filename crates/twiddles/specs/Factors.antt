-- The factors of the ten layers, all of them powers of ψ.
use Rattle.std.specs.Prelude.{List, ℕ, ◌+◌, ◌-◌, ◌/◌, ◌%◌, ◌^◌}
use Rattle.lists.specs.Table.{table}
use Rattle.algebra.specs.Halving.{reversed}
use Rattle.modq.specs.Montgomery.{montgomery_form}
use Rattle.twiddles.specs.Powers.{power}

-- Layer k has 2^k blocks, and pair j is in block j % 2^k. Blocks are numbered through all layers: those of layer k from 2^k on.
abbrev pub block_of : ℕ → ℕ → ℕ
block_of k j = 2 ^ k + j % 2 ^ k

-- block m of the forward transform has the factor ψ^e, where e is m with its ten bits in reverse order
abbrev pub forward_factor : ℕ → ℕ → ℕ
forward_factor k j = power (reversed 10 (block_of k j))

-- - 1 / ψ^e on the way back
abbrev pub backward_factor : ℕ → ℕ → ℕ
backward_factor k j = power (1024 - reversed 10 (block_of k j))

-- the 512 factors of each layer, one layer after the other, in Montgomery's form
unfoldable pub forward_factors : List ℕ
forward_factors = table 5120 (λ i. montgomery_form (forward_factor (i / 512) (i % 512)))

unfoldable pub backward_factors : List ℕ
backward_factors = table 5120 (λ i. montgomery_form (backward_factor (i / 512) (i % 512)))

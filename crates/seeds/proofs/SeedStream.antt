-- How long the stream of a seed is.
use mathlib.Core.Path.{◌≡◌}
use mathlib.Core.List.{List}
use Prim.Native.Nat.{ℕ}
use lib.ListN.{length}
use Rattle.shake.proofs.Output.{length-shake128}
use Rattle.sampling.specs.Stream.{stream_length}
use Rattle.seeds.specs.Seeds.{seed_stream}

pub length-seed_stream : (seed : List ℕ) → length (seed_stream seed) ≡ stream_length
unfolding seed_stream
length-seed_stream seed = length-shake128 _ stream_length

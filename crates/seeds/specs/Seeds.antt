-- The a of a seeded public key: document 02, No. 2.
use Rattle.std.specs.Prelude.{List, ℕ}
use Rattle.shake.specs.Shake.{shake128}
use Rattle.sampling.specs.Stream.{stream_length, uniform_element}

-- the first 2,688 bytes of SHAKE128 over the seed
unfoldable pub seed_stream : List ℕ → List ℕ
seed_stream seed = shake128 seed stream_length

-- a, by the stream rule of document 01
abbrev pub seed_element : List ℕ → List ℕ
seed_element seed = uniform_element (seed_stream seed)

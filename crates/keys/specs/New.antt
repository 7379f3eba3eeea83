-- A new key, from a stream and the noise of s and of e.
use Rattle.std.specs.Prelude.{List, ℕ}
use Rattle.sampling.specs.Noise.{ternary_noise}
use Rattle.sampling.specs.Stream.{uniform_element}
use Rattle.keys.specs.declared.NewKey.{NewKey}
use Rattle.keys.specs.Keys.{keygen_b}

abbrev pub new_key : (stream s e : List ℕ) → NewKey
new_key stream s e = record { a = uniform_element stream; b = keygen_b stream s e; s = ternary_noise s }

-- What key generation makes, and triples from noise.
use Rattle.std.specs.Prelude.{List, ℕ}
use Rattle.scheme.specs.Scheme.{Triple, key_element}
use Rattle.sampling.specs.Noise.{noise_length, ternary_noise}
use Rattle.sampling.specs.Stream.{uniform_element}
use Rattle.answers.specs.Answers.{and_then, Answer}
use Rattle.records.specs.Records.{part}
use Rattle.public_keys.specs.PublicKeys.{stream_answer, inverse_answer}

-- ---- key generation, from a stream and the noise of s and of e

-- b, for the a of the stream
unfoldable pub keygen_b : (stream s e : List ℕ) → List ℕ
keygen_b stream s e = key_element (uniform_element stream) (ternary_noise s) (ternary_noise e)

-- 8, 6
unfoldable pub generated_answer : (stream s e : List ℕ) → Answer
generated_answer stream s e = and_then (stream_answer stream) (inverse_answer (keygen_b stream s e))

-- ---- triples

-- how many bytes a triple is read from: r, then e1, then e2
abbrev pub triple_noise_length : ℕ
triple_noise_length = 1536

abbrev pub noise_triple : List ℕ → Triple
noise_triple noise = record {
  r = ternary_noise (part 0 noise_length noise);
  e1 = ternary_noise (part 512 noise_length noise);
  e2 = ternary_noise (part 1024 noise_length noise);
}

-- What the program makes of its input, and what it prints.
use Rattle.std.specs.Prelude.{Bool, cond, List, [], ◌++◌, ℕ, ◌+◌, ◌-◌, eqb, length}
use Rattle.answers.specs.declared.Refusal.TheVariants.{WrongLength}
use Rattle.answers.specs.Answers.{unless, on_done, Answer}
use Rattle.records.specs.Layout.{public_key_length, seed_length, seeded_key_length, secret_key_length}
use Rattle.records.specs.Records.{part}
use Rattle.sampling.specs.Noise.{noise_length}
use Rattle.sampling.specs.Stream.{stream_length}
use Rattle.seeds.specs.Seeds.{seed_stream}
use Rattle.calls.specs.Calls.{keygen_answer, new_public_key, new_secret_key, seeded_keygen_answer, new_seeded_key}
use Rattle.refusal_line.specs.Line.{refusal_line}

-- ---- the input: a stream or a seed, then the noise of s and the noise of e

-- with a stream
abbrev pub input_length : ℕ
input_length = 3712

-- with a seed
abbrev pub seeded_input_length : ℕ
seeded_input_length = 1056

abbrev pub is_seeded_key : (input : List ℕ) → Bool
is_seeded_key input = eqb (length input) seeded_input_length

abbrev pub stream_part : (input : List ℕ) → List ℕ
stream_part input = part 0 stream_length input

abbrev pub seed_part : (input : List ℕ) → List ℕ
seed_part input = part 0 seed_length input

-- the noise is the last 1,024 bytes
abbrev pub noise_place : (input : List ℕ) → ℕ
noise_place input = length input - 1024

abbrev pub s_part : (input : List ℕ) → List ℕ
s_part input = part (noise_place input) noise_length input

abbrev pub e_part : (input : List ℕ) → List ℕ
e_part input = part (noise_place input + noise_length) noise_length input

-- ---- the keys

-- 1 for an input of any other length
unfoldable pub make_key_answer : (input : List ℕ) → Answer
make_key_answer input =
    cond (is_seeded_key input) (seeded_keygen_answer (seed_part input) (s_part input) (e_part input) seeded_key_length secret_key_length)
    (unless (eqb (length input) input_length) WrongLength (keygen_answer (stream_part input) (s_part input) (e_part input) public_key_length secret_key_length))

-- of either kind
unfoldable pub public_key : (input : List ℕ) → List ℕ
public_key input = cond (is_seeded_key input) (new_seeded_key (seed_part input) (s_part input) (e_part input)) (new_public_key (stream_part input) (s_part input) (e_part input))

unfoldable pub secret_key : (input : List ℕ) → List ℕ
secret_key input = new_secret_key (cond (is_seeded_key input) (seed_stream (seed_part input)) (stream_part input)) (s_part input) (e_part input)

-- ---- what is printed

-- nothing on a refusal
unfoldable pub standard_output : (input : List ℕ) → List ℕ
standard_output input = on_done (make_key_answer input) (public_key input ++ secret_key input) []

-- nothing under Done
unfoldable pub standard_error : (input : List ℕ) → List ℕ
standard_error input = refusal_line (make_key_answer input)

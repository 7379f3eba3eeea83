-- What the program makes of its input, and what it prints.
use Rattle.std.specs.Prelude.{Bool, ◌||◌, List, [], ℕ, ◌+◌, ◌-◌, eqb, length}
use Rattle.answers.specs.declared.Refusal.TheVariants.{WrongLength}
use Rattle.answers.specs.Answers.{unless, on_done, Answer}
use Rattle.records.specs.Layout.{sealed_entry_length, block_length}
use Rattle.records.specs.Records.{part}
use Rattle.keys.specs.Keys.{triple_noise_length}
use Rattle.calls.specs.Calls.{seal_answer, sealed_bytes}
use Rattle.refusal_line.specs.Line.{refusal_line}

-- ---- the input: a public key of either kind, the noise and the entry

-- of the noise and the entry
abbrev pub behind_key_length : ℕ
behind_key_length = 1552

-- with a public key of 4,101 bytes
abbrev pub input_length : ℕ
input_length = 5653

-- with a seeded one, of 2,085
abbrev pub seeded_input_length : ℕ
seeded_input_length = 3637

abbrev pub is_input_length : ℕ → Bool
is_input_length size = eqb size input_length || eqb size seeded_input_length

abbrev pub key_length : (input : List ℕ) → ℕ
key_length input = length input - behind_key_length

abbrev pub key_part : (input : List ℕ) → List ℕ
key_part input = part 0 (key_length input) input

abbrev pub noise_part : (input : List ℕ) → List ℕ
noise_part input = part (key_length input) triple_noise_length input

abbrev pub entry_part : (input : List ℕ) → List ℕ
entry_part input = part (key_length input + triple_noise_length) block_length input

-- ---- the sealed entry

-- 1 for an input of any other length
unfoldable pub seal_entry_answer : (input : List ℕ) → Answer
seal_entry_answer input = unless (is_input_length (length input)) WrongLength (seal_answer (key_part input) (noise_part input) (entry_part input) sealed_entry_length)

abbrev pub sealed_entry : (input : List ℕ) → List ℕ
sealed_entry input = sealed_bytes (key_part input) (noise_part input) (entry_part input)

-- ---- what is printed

-- nothing on a refusal
unfoldable pub standard_output : (input : List ℕ) → List ℕ
standard_output input = on_done (seal_entry_answer input) (sealed_entry input) []

-- nothing under Done
unfoldable pub standard_error : (input : List ℕ) → List ℕ
standard_error input = refusal_line (seal_entry_answer input)

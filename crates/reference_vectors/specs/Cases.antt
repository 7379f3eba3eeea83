-- The cases of the public calls, of the noise and of the desk: their fields, and when what is done agrees with what a case tells.
use Rattle.std.specs.Prelude.{Bool, ◌&&◌, ◌||◌, List, ℕ, ◌+◌, ◌-◌, ◌%◌, eqb, length, get_or, take}
use Rattle.modq.specs.Modulus.{q}
use Rattle.sampling.specs.Noise.{ternary_noise}
use Rattle.answers.specs.Answers.{number}
use Rattle.answers.specs.Locations.{location}
use Rattle.location_text.specs.Words.{location_text}
use Rattle.desk_opening.specs.Input.{desk_answer}
use Rattle.desk_line.specs.Line.{desk_line}
use Rattle.vectors.specs.declared.Verdict.{Verdict}
use Rattle.vectors.specs.Fields.{word32, field, has_field}
use Rattle.vectors.specs.Answers.{is_same, verdict_of}
use Rattle.case_outputs.specs.Outputs.{output}
use Rattle.key_cases.specs.KeyCases.{check_agrees, keygen_agrees}
use Rattle.call_cases.specs.CallCases.{size_field, call_agrees}
use Rattle.batch_cases.specs.BatchCases.{open_batch_agrees}
use Rattle.margin_cases.specs.MarginCases.{open_margin_agrees}
use Rattle.reference_vectors.specs.declared.Kind.{Kind}
use Rattle.reference_vectors.specs.declared.Kind.TheVariants.{CheckSecretKey, Keygen, Writing, OpenBatch, OpenWithMargin, Noise, Desk}

-- the last field of a case
abbrev pub last_field : Kind → ℕ
last_field CheckSecretKey = 2
last_field (Keygen source) = 8
last_field (Writing call) = size_field call + 3
last_field OpenBatch = 7
last_field OpenWithMargin = 7
last_field Noise = 3
last_field Desk = 3

abbrev pub is_case : Kind → List ℕ → Bool
is_case kind text = has_field (last_field kind) text

-- the coefficient of a number above −q, which stands in two's complement
abbrev pub residue_of : ℕ → ℕ
residue_of w = (w + q) % 4294967296 % q

-- four bits, in a byte with zeros above them, and their coefficient
abbrev pub noise_agrees : List ℕ → Bool
noise_agrees text = eqb (word32 (field 1 text)) 0 && eqb (get_or (ternary_noise (field 0 text)) 0 0) (residue_of (word32 (field 3 text)))

-- the desk's line is told without its line feed
abbrev pub without_feed : List ℕ → List ℕ
without_feed line = take (length line - 1) line

abbrev pub line_agrees : List ℕ → Bool
line_agrees text = is_same (without_feed (desk_line (field 0 text))) (field 3 text)

-- the location, or nothing, as the desk prints none
abbrev pub desk_located : List ℕ → Bool
desk_located text = eqb (length (field 2 text)) 0 || is_same (location_text (location (desk_answer (field 0 text)))) (field 2 text)

-- number, location and line
abbrev pub desk_agrees : List ℕ → Bool
desk_agrees text = eqb (number (desk_answer (field 0 text))) (word32 (field 1 text)) && desk_located text && line_agrees text

abbrev pub agrees : Kind → List ℕ → Bool
agrees CheckSecretKey text = check_agrees text
agrees (Keygen source) text = keygen_agrees source text (output 3 text) (output 4 text)
agrees (Writing call) text = call_agrees call text (output (size_field call) text)
agrees OpenBatch text = open_batch_agrees text (output 3 text)
agrees OpenWithMargin text = open_margin_agrees text (output 3 text)
agrees Noise text = noise_agrees text
agrees Desk text = desk_agrees text

-- the verdict on the case that a text starts with
unfoldable pub verdict : Kind → List ℕ → Verdict
verdict kind text = verdict_of (is_case kind text) (agrees kind text)

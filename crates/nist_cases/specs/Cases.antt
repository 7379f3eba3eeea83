-- The verdict on the case that a text starts with. A case agrees only if each of its lines has its name, its number and its length, and
-- the function under test gives the output told, from the message and at the length told. A line that is wrong in itself makes the case
-- malformed at that line, which is named by how many bytes are left from its start on.
use Rattle.std.specs.Prelude.{Bool, cond, List, [], ◌∷◌, ℕ, eqb, length, take, Option, Some, None}
use Rattle.hexadecimal.specs.Hex.{bytes_of, decoded, written}
use Rattle.response_files.specs.Lines.{after_line, same, value_of}
use Rattle.response_files.specs.Fields.{length_field, is_count, is_hex}
use Rattle.monte_chain.specs.declared.Function.{Function}
use Rattle.monte_chain.specs.declared.Chain.{Chain}
use Rattle.nist_cases.specs.declared.Kind.{Kind}
use Rattle.nist_cases.specs.declared.Kind.TheVariants.{Length, Output, Monte}
use Rattle.nist_cases.specs.declared.Verdict.{Verdict}
use Rattle.nist_cases.specs.declared.Verdict.TheVariants.{Agreed, Differed, Malformed}
use Rattle.monte_chain.specs.Monte.{output_of, output_size}

-- `Output = `
abbrev pub output_name : List ℕ
output_name = 79 ∷ 117 ∷ 116 ∷ 112 ∷ 117 ∷ 116 ∷ 32 ∷ 61 ∷ 32 ∷ []

-- `Msg = `
abbrev pub message_name : List ℕ
message_name = 77 ∷ 115 ∷ 103 ∷ 32 ∷ 61 ∷ 32 ∷ []

-- `Len = `
abbrev pub length_name : List ℕ
length_name = 76 ∷ 101 ∷ 110 ∷ 32 ∷ 61 ∷ 32 ∷ []

-- `Outputlen = `
abbrev pub output_length_name : List ℕ
output_length_name = 79 ∷ 117 ∷ 116 ∷ 112 ∷ 117 ∷ 116 ∷ 108 ∷ 101 ∷ 110 ∷ 32 ∷ 61 ∷ 32 ∷ []

-- the most bytes that the program has room for, in a message and in an output
abbrev pub most : ℕ
most = 65536

-- the message gives what is expected, at the length of what is expected
abbrev pub agrees : (function : Function) (message expected : List ℕ) → Bool
agrees function message expected = same (output_of function message (length expected)) expected

-- a message by the line `Output = `, which is to have size bytes
unfoldable pub judged : (function : Function) (message : List ℕ) (size : ℕ) (text : List ℕ) → Verdict
judged function message size text =
    cond (is_hex most size (value_of output_name text))
    (cond (agrees function message (bytes_of (value_of output_name text))) Agreed Differed)
    (Malformed (length text))

-- the digits tell a message of so many bytes, for which there is room; the empty message is written 00
unfoldable pub is_message : (room bytes : ℕ) (digits : List ℕ) → Bool
is_message room bytes digits = cond (eqb bytes 0) (same digits (48 ∷ 48 ∷ [])) (is_hex room bytes digits)

-- a buffer after the digits of a message were read into it
abbrev pub message_in : (bytes : ℕ) (digits out : List ℕ) → List ℕ
message_in bytes digits out = cond (eqb bytes 0) out (written (decoded digits) out)

-- the lines `Msg = `, of so many bytes, and `Output = `
unfoldable pub judged_message : (function : Function) (bytes size : ℕ) (text : List ℕ) → Verdict
judged_message function bytes size text =
    cond (is_message most bytes (value_of message_name text))
    (judged function (take bytes (bytes_of (value_of message_name text))) size (after_line text))
    (Malformed (length text))

-- an output that has the wrong length
abbrev pub differing : Verdict → Verdict
differing Agreed = Differed
differing Differed = Differed
differing (Malformed left) = Malformed left

-- the line `Output = `, of size bytes, by a turn of the chain
unfoldable pub judged_turn : (function : Function) (chain : Chain) (size : ℕ) (text : List ℕ) → Verdict
judged_turn function chain size text =
    cond (eqb size (output_size function chain.extra))
    (judged function chain.message size text)
    (differing (judged function chain.message size text))

-- the lines that follow a length, if there is one
abbrev pub with_length : (length : Option ℕ) (left : ℕ) → (ℕ → Verdict) → Verdict
with_length (Some n) left judge = judge n
with_length None left judge = Malformed left

-- the lines after `Outputlen = `, of a file whose messages have `number` bytes or come from the chain
abbrev pub judged_output : (function : Function) (kind : Kind) (number : ℕ) (chain : Chain) (size : ℕ) (text : List ℕ) → Verdict
judged_output function Length number chain size text = judged_message function number size text
judged_output function Output number chain size text = judged_message function number size text
judged_output function Monte number chain size text = judged_turn function chain size text

-- COUNT, Outputlen, and the lines after them
unfoldable pub judged_counted : (function : Function) (kind : Kind) (number count : ℕ) (chain : Chain) (text : List ℕ) → Verdict
judged_counted function kind number count chain text =
    cond (is_count count text)
    (with_length (length_field output_length_name (after_line text)) (length (after_line text))
    (λ size. judged_output function kind number chain size (after_line (after_line text))))
    (Malformed (length text))

-- Len, Msg, Output
unfoldable pub judged_length : (function : Function) (size : ℕ) (text : List ℕ) → Verdict
judged_length function size text =
    with_length (length_field length_name text) (length text) (λ bytes. judged_message function bytes size (after_line text))

-- One case of a file. `number` is the length that the file's header gives: of every output in files by the length of the message, and of
-- every message in files by the length of the output. The chain stands before the last turn of the case.
abbrev pub judged_case : (function : Function) (kind : Kind) (number count : ℕ) (chain : Chain) (text : List ℕ) → Verdict
judged_case function Length number count chain text = judged_length function number text
judged_case function Output number count chain text = judged_counted function Output number count chain text
judged_case function Monte number count chain text = judged_counted function Monte number count chain text

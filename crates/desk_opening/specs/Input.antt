-- The input of the desk program, and what is answered to it (document 01, "The desk program"; document 02, No. 5).
use Rattle.std.specs.Prelude.{List, ℕ, eqb, length}
use Rattle.lists.specs.Table.{zeros}
use Rattle.answers.specs.declared.Refusal.TheVariants.{WrongLength}
use Rattle.answers.specs.Answers.{unless, and_then, on_done, Answer}
use Rattle.records.specs.Layout.{secret_key_mark, secret_key_version, secret_key_length, sealed_entry_length, block_length}
use Rattle.records.specs.Records.{part, header_answer}
use Rattle.keys.specs.Keys.{triple_noise_length}
use Rattle.calls.specs.Calls.{open_answer, open_out}

-- ---- the input: secret key, sealed entry, dummy noise

abbrev pub input_length : ℕ
input_length = 10026

abbrev pub key_part : List ℕ → List ℕ
key_part input = part 0 secret_key_length input

abbrev pub sealed_part : List ℕ → List ℕ
sealed_part input = part 4357 sealed_entry_length input

abbrev pub dummy_part : List ℕ → List ℕ
dummy_part input = part 8490 triple_noise_length input

-- ---- what is answered

-- 2, 3 for a key of any version but 1, then what opening answers
abbrev pub parts_answer : (key sealed dummy : List ℕ) → Answer
parts_answer key sealed dummy = and_then (header_answer secret_key_mark secret_key_version key) (open_answer key sealed dummy block_length)

-- 1 for an input of any other length
unfoldable pub desk_answer : List ℕ → Answer
desk_answer input = unless (eqb (length input) input_length) WrongLength (parts_answer (key_part input) (sealed_part input) (dummy_part input))

-- what opening writes into 16 zeros, which stay beside a refusal; shown only under Done
unfoldable pub desk_entry : List ℕ → List ℕ
desk_entry input = on_done (desk_answer input) (open_out (key_part input) (sealed_part input) (dummy_part input) (zeros block_length)) (zeros block_length)

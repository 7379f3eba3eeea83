-- The line of a file of test vectors, as ASCII bytes.
use Rattle.std.specs.Prelude.{◌≡◌, cond, ◌&&◌, List, [], ◌∷◌, ◌++◌, ℕ, eqb, Result, Ok, Err}
use Rattle.std.specs.Fn.{Once}
use denote.Ref.{Bor}
use Rattle.text.specs.Text.{decimal}
use Rattle.vectors.specs.declared.Counts.{Counts}
use Rattle.vectors.specs.declared.MalformedAt.TheVariants.{Byte, Line}
use Rattle.vectors.specs.declared.FileError.{FileError}
use Rattle.vectors.specs.declared.FileError.TheVariants.{TooLong, Missing}
use Rattle.vectors.specs.Answers.{Report, bytes_read}

-- ---- texts

-- `malformed at `, what is counted, and the place
unfoldable pub malformed_text : (what : List ℕ) (place : ℕ) → List ℕ
malformed_text what place = (109 ∷ 97 ∷ 108 ∷ 102 ∷ 111 ∷ 114 ∷ 109 ∷ 101 ∷ 100 ∷ 32 ∷ 97 ∷ 116 ∷ 32 ∷ []) ++ what ++ decimal place

-- `byte ` and `line `
abbrev pub byte_name : List ℕ
byte_name = 98 ∷ 121 ∷ 116 ∷ 101 ∷ 32 ∷ []

abbrev pub line_name : List ℕ
line_name = 108 ∷ 105 ∷ 110 ∷ 101 ∷ 32 ∷ []

-- N ` agreed, ` M ` differed`
unfoldable pub counts_text : Counts → List ℕ
counts_text c =
    decimal c.agreed ++ (32 ∷ 97 ∷ 103 ∷ 114 ∷ 101 ∷ 101 ∷ 100 ∷ 44 ∷ 32 ∷ []) ++ decimal c.differed ++ (32 ∷ 100 ∷ 105 ∷ 102 ∷ 102 ∷ 101 ∷ 114 ∷ 101 ∷ 100 ∷ [])

-- a file without a case is malformed from its start
abbrev pub report_text : Report → List ℕ
report_text (Ok c) = cond (eqb c.agreed 0 && eqb c.differed 0) (malformed_text byte_name 0) (counts_text c)
report_text (Err (Byte place)) = malformed_text byte_name place
report_text (Err (Line place)) = malformed_text line_name place

-- the report where the file was read; else `too long` or `missing`
abbrev pub file_text : Result Report FileError → List ℕ
file_text (Ok report) = report_text report
file_text (Err TooLong) = 116 ∷ 111 ∷ 111 ∷ 32 ∷ 108 ∷ 111 ∷ 110 ∷ 103 ∷ []
file_text (Err Missing) = 109 ∷ 105 ∷ 115 ∷ 115 ∷ 105 ∷ 110 ∷ 103 ∷ []

-- the name, `: `, the text, and a line feed
unfoldable pub file_line : (name : List ℕ) → Result Report FileError → List ℕ
file_line name read = name ++ (58 ∷ 32 ∷ []) ++ file_text read ++ (10 ∷ [])

-- ---- from the bytes that were read to the report

-- a closure that gives this report, of any text
abbrev pub Reports : {F : Type 0} (calls : Once F (Bor (List ℕ) × Unit {0}) Report) (judge : F) (report : List ℕ → Report) → Type 0
Reports calls judge report = (text : Bor (List ℕ)) (r : Report) → calls.post judge (text, tt) r → r ≡ report text.now

-- the report on the bytes that were read, or why none were
abbrev pub judged_file : (report : List ℕ → Report) → Result ℕ FileError → (buffer : List ℕ) → Result Report FileError
judged_file report (Ok n) buffer = Ok (report (bytes_read (Ok n) buffer))
judged_file report (Err error) buffer = Err error

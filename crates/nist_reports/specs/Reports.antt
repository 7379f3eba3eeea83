-- What is reported of a response file: a verdict on each of its cases, and the count of them.
use Rattle.std.specs.Prelude.{Bool, cond, ◌&&◌, List, [], ◌∷◌, ℕ, zero, suc, ◌+◌, ◌-◌, eqb, length, Ok, Err}
use Rattle.lists.specs.Table.{zeros}
use Rattle.hexadecimal.specs.Hex.{decoded, written}
use Rattle.response_files.specs.Lines.{after_line, value_of, is_blank, lines, line_at}
use Rattle.response_files.specs.Fields.{is_hex}
use Rattle.response_files.specs.Headers.{body, header_number}
use Rattle.monte_chain.specs.declared.Function.{Function}
use Rattle.monte_chain.specs.declared.Chain.{Chain}
use Rattle.nist_cases.specs.declared.Kind.{Kind}
use Rattle.nist_cases.specs.declared.Kind.TheVariants.{Length, Output, Monte}
use Rattle.nist_cases.specs.declared.Verdict.{Verdict}
use Rattle.nist_cases.specs.declared.Verdict.TheVariants.{Agreed, Differed, Malformed}
use Rattle.monte_chain.specs.Monte.{least_size, greatest_size, turns}
use Rattle.nist_cases.specs.Cases.{message_name, judged_case}
use Rattle.vectors.specs.declared.MalformedAt.TheVariants.{Line}
use Rattle.vectors.specs.Answers.{Report}

-- ---- the cases

-- how many lines of a case follow its first
abbrev pub more_lines : Kind → ℕ
more_lines Length = 2
more_lines Output = 3
more_lines Monte = 2

-- The cases among lines of which so many belong to a case that has begun: blank lines between cases are skipped, and any other line starts
-- a case. Each line, and each case, is the text from its start on.
unfoldable pub cases_among : (kind : Kind) (more : ℕ) (lines : List (List ℕ)) → List (List ℕ)
cases_among kind more [] = []
cases_among kind zero (line ∷ rest) =
    cond (is_blank line) (cases_among kind zero rest) (line ∷ cases_among kind (more_lines kind) rest)
cases_among kind (suc more) (line ∷ rest) = cases_among kind more rest

-- what stands behind so many lines
unfoldable pub after_lines : (n : ℕ) (text : List ℕ) → List ℕ
after_lines zero text = text
after_lines (suc n) text = after_lines n (after_line text)

-- what stands behind the lines of a case
abbrev pub after_case : (kind : Kind) (text : List ℕ) → List ℕ
after_case kind text = after_lines (more_lines kind) (after_line text)

-- ---- the verdicts

-- the chain of the next case, a thousand turns on; only a Monte file has one
abbrev pub next_chain : (function : Function) (kind : Kind) (chain : Chain) → Chain
next_chain function Length chain = chain
next_chain function Output chain = chain
next_chain function Monte chain = turns function 1000 chain

-- the verdicts on cases that are counted on from a number
unfoldable pub verdicts : (function : Function) (kind : Kind) (number count : ℕ) (chain : Chain) (cases : List (List ℕ)) → List Verdict
verdicts function kind number count chain [] = []
verdicts function kind number count chain (case ∷ cases) =
    judged_case function kind number count chain case ∷ verdicts function kind number (count + 1) (next_chain function kind chain) cases

-- malformed at the line at which so many bytes of the text are left
abbrev pub malformed_line : (left : ℕ) (text : List ℕ) → Report
malformed_line left text = Err (Line (line_at left text))

-- The report that verdicts make, after so many that agreed and that differed. The first malformed case is the report; so is the end of a
-- text without a case.
unfoldable pub tally : (text : List ℕ) (agreed differed : ℕ) (verdicts : List Verdict) → Report
tally text agreed differed [] = cond (eqb (agreed + differed) 0) (malformed_line 0 text) (Ok (record { agreed = agreed; differed = differed }))
tally text agreed differed (Agreed ∷ rest) = tally text (agreed + 1) differed rest
tally text agreed differed (Differed ∷ rest) = tally text agreed (differed + 1) rest
tally text agreed differed (Malformed left ∷ rest) = malformed_line left text

-- the report on the cases of a body, by lines of the whole text
unfoldable pub report_on : (function : Function) (kind : Kind) (number : ℕ) (chain : Chain) (text body : List ℕ) → Report
report_on function kind number chain text body = tally text 0 0 (verdicts function kind number 0 chain (cases_among kind 0 (lines body)))

-- ---- the files

-- for the files that have none
abbrev pub no_chain : Chain
no_chain = record { message = zeros 16; extra = 0 }

-- a file whose header of this name gives the length of all outputs or of all messages
unfoldable pub report_plain : (function : Function) (kind : Kind) (name text : List ℕ) → Report
report_plain function kind name text =
    cond (eqb (header_number name text) 0)
    (malformed_line (length (body text)) text)
    (report_on function kind (header_number name text) no_chain text (body text))

-- `[Minimum Output Length (bits) = `
abbrev pub minimum_name : List ℕ
minimum_name =
    91 ∷ 77 ∷ 105 ∷ 110 ∷ 105 ∷ 109 ∷ 117 ∷ 109 ∷ 32 ∷ 79 ∷ 117 ∷ 116 ∷ 112 ∷ 117 ∷ 116 ∷ 32 ∷
    76 ∷ 101 ∷ 110 ∷ 103 ∷ 116 ∷ 104 ∷ 32 ∷ 40 ∷ 98 ∷ 105 ∷ 116 ∷ 115 ∷ 41 ∷ 32 ∷ 61 ∷ 32 ∷ []

-- `[Maximum Output Length (bits) = `
abbrev pub maximum_name : List ℕ
maximum_name =
    91 ∷ 77 ∷ 97 ∷ 120 ∷ 105 ∷ 109 ∷ 117 ∷ 109 ∷ 32 ∷ 79 ∷ 117 ∷ 116 ∷ 112 ∷ 117 ∷ 116 ∷ 32 ∷
    76 ∷ 101 ∷ 110 ∷ 103 ∷ 116 ∷ 104 ∷ 32 ∷ 40 ∷ 98 ∷ 105 ∷ 116 ∷ 115 ∷ 41 ∷ 32 ∷ 61 ∷ 32 ∷ []

-- the headers give the least and the greatest size of an output, and a message of 16 bytes follows them
unfoldable pub is_monte : (function : Function) (text body : List ℕ) → Bool
is_monte function text body =
    eqb (header_number minimum_name text) (least_size function)
    && eqb (header_number maximum_name text) (greatest_size function)
    && is_hex 16 16 (value_of message_name body)

-- the chain before the last turn of the first case: the first output has the greatest size
unfoldable pub first_chain : (function : Function) (digits : List ℕ) → Chain
first_chain function digits =
    turns function 999 (record { message = written (decoded digits) (zeros 16); extra = greatest_size function - least_size function })

unfoldable pub report_monte : (function : Function) (text : List ℕ) → Report
report_monte function text =
    cond (is_monte function text (body text))
    (report_on function Monte 0 (first_chain function (value_of message_name (body text))) text (after_line (body text)))
    (malformed_line (length (body text)) text)

-- `[Outputlen = `
abbrev pub output_length_header : List ℕ
output_length_header = 91 ∷ 79 ∷ 117 ∷ 116 ∷ 112 ∷ 117 ∷ 116 ∷ 108 ∷ 101 ∷ 110 ∷ 32 ∷ 61 ∷ 32 ∷ []

-- `[Input Length = `
abbrev pub input_length_header : List ℕ
input_length_header = 91 ∷ 73 ∷ 110 ∷ 112 ∷ 117 ∷ 116 ∷ 32 ∷ 76 ∷ 101 ∷ 110 ∷ 103 ∷ 116 ∷ 104 ∷ 32 ∷ 61 ∷ 32 ∷ []

-- the report on a whole file
abbrev pub report_of : (function : Function) (kind : Kind) (text : List ℕ) → Report
report_of function Length text = report_plain function Length output_length_header text
report_of function Output text = report_plain function Output input_length_header text
report_of function Monte text = report_monte function text

-- How long a line may be.
use mathlib.Core.Bool.{◌&&◌}
use mathlib.Core.List.{List}
use Prim.Native.Nat.{ℕ, ◌+◌, ◌≤◌}
use native.Mathlib.Omega.{arith}
use lib.Dec.{eqb}
use lib.ListN.{length, length-append}
use Rattle.std.specs.Prelude.{Result, Ok, Err}
use Rattle.text.proofs.Texts.{either-most}
use Rattle.text.proofs.Decimals.{length_digits}
use Rattle.vectors.specs.declared.Counts.{Counts}
use Rattle.vectors.specs.declared.MalformedAt.TheVariants.{Byte, Line}
use Rattle.vectors.specs.declared.FileError.{FileError}
use Rattle.vectors.specs.declared.FileError.TheVariants.{TooLong, Missing}
use Rattle.vectors.specs.Answers.{Report}
use Rattle.report_line.specs.Line.{malformed_text, byte_name, line_name, counts_text, report_text, file_text, file_line}

malformed-most : (what : List ℕ) (place : ℕ) → length (malformed_text what place) ≤ 33 + length what
unfolding malformed_text
malformed-most what place = simp length-append (omega (arith, length_digits 20 place))

counts-most : (c : Counts) → length (counts_text c) ≤ 58
unfolding counts_text
counts-most c = simp length-append (omega (arith, length_digits 20 c.agreed, length_digits 20 c.differed))

report-most : (report : Report) → length (report_text report) ≤ 58
report-most (Ok c) =
    either-most (eqb c.agreed 0 && eqb c.differed 0) (malformed_text byte_name 0) (counts_text c) 58 (omega (arith, malformed-most byte_name 0)) (counts-most c)
report-most (Err (Byte place)) = omega (arith, malformed-most byte_name place)
report-most (Err (Line place)) = omega (arith, malformed-most line_name place)

file-most : (read : Result Report FileError) → length (file_text read) ≤ 58
file-most (Ok report) = report-most report
file-most (Err TooLong) = omega arith
file-most (Err Missing) = omega arith

-- the line of a file with a name of at most 195 bytes stands whole in 256 bytes
pub line-fits : (name : List ℕ) (read : Result Report FileError) → length name ≤ 195 → length (file_line name read) ≤ 256
unfolding file_line
line-fits name read h = simp length-append (omega (arith, file-most read))

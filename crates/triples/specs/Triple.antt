-- A triple of ternary polynomials as bytes: r, e1, e2, one behind the other.
use Rattle.std.specs.Prelude.{List, ◌++◌, ℕ}
use Rattle.scheme.specs.Scheme.{Triple}
use Rattle.encoding.specs.Codes.{ternary_of, ternary_bytes}
use Rattle.answers.specs.Answers.{and_then, Answer}
use Rattle.records.specs.Layout.{ternary_length}
use Rattle.records.specs.Records.{part, codes_answer}

-- the codes of r, e1 and e2
abbrev pub r_part : List ℕ → List ℕ
r_part bytes = part 0 ternary_length bytes

abbrev pub e1_part : List ℕ → List ℕ
e1_part bytes = part 256 ternary_length bytes

abbrev pub e2_part : List ℕ → List ℕ
e2_part bytes = part 512 ternary_length bytes

abbrev pub r_of : List ℕ → List ℕ
r_of bytes = ternary_of (r_part bytes)

abbrev pub e1_of : List ℕ → List ℕ
e1_of bytes = ternary_of (e1_part bytes)

abbrev pub e2_of : List ℕ → List ℕ
e2_of bytes = ternary_of (e2_part bytes)

abbrev pub triple_of : List ℕ → Triple
triple_of bytes = record { r = r_of bytes; e1 = e1_of bytes; e2 = e2_of bytes }

-- 5
unfoldable pub triple_answer : List ℕ → Answer
triple_answer bytes = and_then (codes_answer (r_part bytes)) (and_then (codes_answer (e1_part bytes)) (codes_answer (e2_part bytes)))

-- the 768 bytes of a triple
unfoldable pub triple_bytes : (r e1 e2 : List ℕ) → List ℕ
triple_bytes r e1 e2 = ternary_bytes r ++ ternary_bytes e1 ++ ternary_bytes e2

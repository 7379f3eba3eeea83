-- The line of an answer, and how long it is.
use mathlib.Core.Path.{◌≡◌, refl}
use mathlib.Core.List.{List, [], ◌∷◌, ◌++◌, append-nil}
use Prim.Native.Nat.{ℕ, ◌+◌, ◌≤◌}
use native.Mathlib.Omega.{arith}
use lib.ListN.{length, length-append, drop_of_length-le}
use lib.Seq.{take_all}
use Rattle.hexadecimal.specs.Hex.{text_of, written}
use Rattle.text.specs.Text.{digits_of, decimal}
use Rattle.text.proofs.Decimals.{length_digits}
use Rattle.answers.specs.Answers.{number, and_then, Answer}
use Rattle.answer_line.specs.Line.{shown, line_of, opened_line}
use Rattle.std.specs.Prelude.{Ok, Err}

pub written_whole : (s out : List ℕ) → length s ≡ length out → written s out ≡ s
written_whole s out e = rw (take_all (length out) s (omega arith), drop_of_length-le out {i = length s} (omega arith)) (append-nil s)

pub length_line : (n : ℕ) (text : List ℕ) → length (line_of n text) ≡ length (decimal n) + length text + 2
length_line n text =
    let number = decimal n in
    omega (arith, length-append number (32 ∷ []), length-append (number ++ (32 ∷ [])) text, length-append (number ++ (32 ∷ []) ++ text) (10 ∷ []))

-- "0", and 32 digits of the entry
pub entry_fits_lem : (text : List ℕ) → length text ≡ 32 → length (line_of 0 text) ≤ 35
unfolding digits_of
entry_fits_lem text size = omega (arith, length_line 0 text)

-- any number, and "-"
pub refusal-fits : (n : ℕ) → length (line_of n (45 ∷ [])) ≤ 35
refusal-fits n = omega (arith, length_line n (45 ∷ []), length_digits 20 n)

-- ---- by the answer

pub line_by : (answer : Answer) (entry : List ℕ) → opened_line (and_then answer (Ok entry)) ≡ line_of (number answer) (shown answer entry)
line_by (Ok _) entry = refl
line_by (Err r) entry = refl

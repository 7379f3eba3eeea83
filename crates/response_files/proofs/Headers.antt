-- Laws of the lines before the first case.
use mathlib.Core.Path.{◌≡◌, refl}
use mathlib.Core.Bool.{true, false, false≢true}
use mathlib.Core.List.{List, [], ◌∷◌}
use Prim.Native.Nat.{ℕ, ◌-◌, ◌<◌}
use native.Mathlib.Omega.{arith}
use lib.ListN.{length, take, length-take}
use Rattle.lists.specs.First.{first_failing}
use Rattle.response_files.specs.Lines.{after_line, line_of, value_of, is_blank, lines}
use Rattle.response_files.specs.Fields.{decimal_of, whole_bytes}
use Rattle.std.specs.Prelude.{None, unwrap_or}
use Rattle.response_files.specs.Headers.{is_remark, is_preamble, length_header, body_from, number_from}
use Rattle.response_files.proofs.Lines.{lines_more}
use Rattle.response_files.proofs.Numbers.{decimal_none}

-- a line without the name gives no number
pub header_none : (name text : List ℕ) → length (value_of name text) ≡ 0 → length_header name text ≡ None
header_none name text h = by (value_of name text) h
  where
    by : (v : List ℕ) → length v ≡ 0 → whole_bytes (decimal_of (take (length v - 1) v)) ≡ None
    by v e = rw (decimal_none (take (length v - 1) v) (omega (arith, length-take (length v - 1) v)))

pub preamble-some : (text : List ℕ) → is_preamble text ≡ true → 0 < length text
unfolding is_preamble is_blank is_remark line_of first_failing
preamble-some [] e = absurd (false≢true e)
preamble-some (c ∷ text) e = omega arith

module _ (text : List ℕ) (e : is_preamble text ≡ true) where
  pub body_more : body_from (lines text) ≡ body_from (lines (after_line text))
  unfolding body_from
  body_more = rw (lines_more text (preamble-some text e), e)

  pub number_more : (name : List ℕ) (number : ℕ)
      → number_from name number (lines text) ≡ number_from name (unwrap_or (length_header name text) number) (lines (after_line text))
  unfolding number_from
  number_more name number = rw (lines_more text (preamble-some text e), e)

pub body-here : (text : List ℕ) → is_preamble text ≡ false → body_from (lines text) ≡ text
unfolding body_from lines
body-here [] e = refl
body-here (c ∷ text) e = rw e

pub number-here : (text : List ℕ) → is_preamble text ≡ false → (name : List ℕ) (number : ℕ) → number_from name number (lines text) ≡ number
unfolding number_from lines
number-here [] e name number = refl
number-here (c ∷ text) e name number = rw e

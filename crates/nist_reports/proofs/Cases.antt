-- Laws of the cases of a text, and of the report step by step.
use mathlib.Core.Path.{◌≡◌, refl, ap, ◌∙◌}
use mathlib.Core.Bool.{true, false, cond}
use mathlib.Core.List.{List, ◌∷◌}
use Prim.Native.Nat.{ℕ, zero, suc, ◌+◌, ◌<◌, ◌≤◌}
use native.Mathlib.Decide.{dec_lt}
use native.Mathlib.Omega.{arith}
use lib.Dec.{eqb}
use lib.ListN.{length}
use Rattle.response_files.specs.Lines.{after_line, is_blank, lines}
use Rattle.response_files.proofs.Lines.{lines_more, lines_none, after-within}
use Rattle.monte_chain.specs.declared.Function.{Function}
use Rattle.monte_chain.specs.declared.Chain.{Chain}
use Rattle.nist_cases.specs.declared.Kind.{Kind}
use Rattle.nist_cases.specs.declared.Verdict.TheVariants.{Agreed, Differed, Malformed}
use Rattle.nist_cases.specs.Cases.{judged_case}
use Rattle.std.specs.Prelude.{Ok}
use Rattle.vectors.specs.Answers.{Report}
use Rattle.nist_reports.specs.Reports.{more_lines, cases_among, after_lines, after_case, next_chain, verdicts, malformed_line, tally}

-- ---- cases

-- the lines of a case that has begun are passed over
case-lines : (kind : Kind) (more : ℕ) (text : List ℕ) → cases_among kind more (lines text) ≡ cases_among kind 0 (lines (after_lines more text))
unfolding after_lines cases_among
case-lines kind zero text = refl
case-lines kind (suc more) text = by (dec_lt 0 (length text)) ∙ case-lines kind more (after_line text)
  where
    by : Dec (0 < length text) → cases_among kind (suc more) (lines text) ≡ cases_among kind more (lines (after_line text))
    by (yes h) = rw (lines_more text h)
    by (no h) = rw (lines_none text (omega arith), lines_none (after_line text) (omega (arith, after-within text)))

lines-within : (n : ℕ) (text : List ℕ) → length (after_lines n text) ≤ length text
unfolding after_lines
lines-within zero text = omega arith
lines-within (suc n) text = omega (arith, lines-within n (after_line text), after-within text)

module _ (kind : Kind) (text : List ℕ) (some : 0 < length text) where
  pub cases_blank : is_blank text ≡ true → cases_among kind 0 (lines text) ≡ cases_among kind 0 (lines (after_line text))
  unfolding cases_among
  cases_blank e = rw (lines_more text some, e)

  pub case_shorter : length (after_case kind text) < length text
  case_shorter = omega (arith, lines-within (more_lines kind) (after_line text), after-within text)

  cases_more : is_blank text ≡ false → cases_among kind 0 (lines text) ≡ text ∷ cases_among kind 0 (lines (after_case kind text))
  unfolding cases_among
  cases_more e = rw (lines_more text some, e) (ap (λ (l : List (List ℕ)). text ∷ l) (case-lines kind (more_lines kind) (after_line text)))

-- ---- the report on what is left of a body, after so many cases that agreed and that differed

abbrev pub report_from : (function : Function) (kind : Kind) (number : ℕ) (text : List ℕ) (agreed differed : ℕ) (chain : Chain) (rest : List ℕ)
    → Report
report_from function kind number text agreed differed chain rest =
    tally text agreed differed (verdicts function kind number (agreed + differed) chain (cases_among kind 0 (lines rest)))

module _ (function : Function) (kind : Kind) (number : ℕ) (text : List ℕ) (a d : ℕ) (chain : Chain) (rest : List ℕ) where
  pub report_end : length rest ≡ 0
      → report_from function kind number text a d chain rest ≡ cond (eqb (a + d) 0) (malformed_line 0 text) (Ok (record { agreed = a; differed = d }))
  unfolding tally verdicts cases_among
  report_end e = rw (lines_none rest e)

  module _ (some : 0 < length rest) where
    pub report_blank : is_blank rest ≡ true
        → report_from function kind number text a d chain rest ≡ report_from function kind number text a d chain (after_line rest)
    report_blank e = rw (cases_blank kind rest some e)

    module _ (e : is_blank rest ≡ false) where
      pub report-agreed : judged_case function kind number (a + d) chain rest ≡ Agreed
          → report_from function kind number text a d chain rest
          ≡ report_from function kind number text (a + 1) d (next_chain function kind chain) (after_case kind rest)
      unfolding tally verdicts
      report-agreed v =
          let n : a + d + 1 ≡ a + 1 + d = omega arith in
          rw (cases_more kind rest some e, v, n)

      pub report-differed : judged_case function kind number (a + d) chain rest ≡ Differed
          → report_from function kind number text a d chain rest
          ≡ report_from function kind number text a (d + 1) (next_chain function kind chain) (after_case kind rest)
      unfolding tally verdicts
      report-differed v =
          let n : a + d + 1 ≡ a + (d + 1) = omega arith in
          rw (cases_more kind rest some e, v, n)

      pub report-malformed : (left : ℕ) → judged_case function kind number (a + d) chain rest ≡ Malformed left
          → report_from function kind number text a d chain rest ≡ malformed_line left text
      unfolding tally verdicts
      report-malformed left v = rw (cases_more kind rest some e, v)

-- When what opening with margin does agrees with what a case tells. The fields of a case are key, sealed entry, dummy noise, the length of the
-- output, number, location, margin, and entry.
use Rattle.std.specs.Prelude.{Bool, ◌&&◌, cond, List, ℕ, eqb, length, Result, Ok, Err}
use Rattle.calls.specs.Calls.{open_answer, open_out}
use Rattle.margin_calls.specs.Calls.{open_margin}
use Rattle.vectors.specs.Fields.{word32, field}
use Rattle.case_outputs.specs.Outputs.{answer_agrees}
use Rattle.answers.specs.declared.Refusal.{Refusal}
use Rattle.answers.specs.Answers.{and_then, Done}

-- under 0 the margin is the one that is told; under any other number none is told, and it is 0
unfoldable pub margin_agrees : (text : List ℕ) (margin : ℕ) → Bool
margin_agrees text margin =
    cond (eqb (word32 (field 4 text)) 0) (eqb margin (word32 (field 6 text))) (eqb (length (field 6 text)) 0 && eqb margin 0)

-- answer, margin and output are what is told
unfoldable pub opened_agrees : (text : List ℕ) (opened : Result ℕ Refusal) (after : List ℕ) → Bool
opened_agrees text (Ok margin) after = answer_agrees Done (word32 (field 4 text)) (field 5 text) (field 7 text) after && margin_agrees text margin
opened_agrees text (Err r) after = answer_agrees (Err r) (word32 (field 4 text)) (field 5 text) (field 7 text) after && margin_agrees text 0

-- the output after the call, where it holds `out` before it
unfoldable pub open_margin_after : (text out : List ℕ) → List ℕ
open_margin_after text out = open_out (field 0 text) (field 1 text) (field 2 text) out

unfoldable pub open_margin_agrees : (text out : List ℕ) → Bool
open_margin_agrees text out =
    opened_agrees text
    (and_then (open_answer (field 0 text) (field 1 text) (field 2 text) (length out)) (Ok (open_margin (field 0 text) (field 1 text) (field 2 text))))
    (open_margin_after text out)

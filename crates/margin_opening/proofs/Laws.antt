-- The margin by what is answered.
use mathlib.Core.Path.{◌≡◌, ap, ◌∙◌}
use mathlib.Core.List.{List}
use Prim.Native.Nat.{ℕ}
use lib.ListN.{length}
use Rattle.std.specs.Prelude.{Result, Ok}
use Rattle.answers.specs.declared.Refusal.{Refusal}
use Rattle.answers.specs.Answers.{number, and_then, given_or}
use Rattle.answers.proofs.AnswerLaws.{given_by, number_by}
use Rattle.calls.specs.Calls.{open_answer, open_out}
use Rattle.margin_calls.specs.Calls.{open_margin, open_margin_out}
use Rattle.margin_calls.specs.Promises.{OpenMarginExact}
use Rattle.margin_calls.proofs.Promised.{margin_promise}

-- what is promised of a result
pub margin_promised : (k sealed noise old : List ℕ) {r : Result ℕ Refusal} {out : List ℕ}
    → r ≡ and_then (open_answer k sealed noise (length old)) (Ok (open_margin k sealed noise)) → out ≡ open_out k sealed noise old
    → OpenMarginExact k sealed noise old 0 (number r) out (given_or 0 r)
unfolding open_margin_out
margin_promised k sealed noise old e written =
    let said = open_answer k sealed noise (length old) in
    let margin = open_margin k sealed noise in
    margin_promise k sealed noise old 0 (ap number e ∙ number_by said margin) written (ap (given_or 0) e ∙ given_by said margin 0)

use mathlib.Core.Path.{sym, ◌∙◌}
use Rattle.std.proofs.Common.{rules}
use Rattle.answers.proofs.AnswerLaws.{given-done, given-refused}
use Rattle.calls.specs.Calls.{encapsulate_answer, encapsulated_with, encapsulate_out}
use Rattle.sealing.proofs.encapsulate.Goals as goal

pub returns-then-not-fits : goal.returns-then-not-fits
unfolding encapsulate_answer encapsulate_out
returns-then-not-fits c = record { value = search rules; out_after = search rules }

pub returns-in_err-c : goal.returns-in_err-c
unfolding encapsulate_answer encapsulate_out
returns-in_err-c c =
    let h = given-refused _ (sym c.in_err-c.was ∙ c.encapsulate_records.ensures) in
    record { value = search (rules, h); out_after = search (rules, h) }

pub returns : goal.returns
unfolding encapsulate_answer encapsulated_with encapsulate_out
returns c =
    let h = given-done (sym c.in_ok-c.was ∙ c.encapsulate_records.ensures) in
    record { value = search (rules, h.0); out_after = search (rules, h.0, h.1) }

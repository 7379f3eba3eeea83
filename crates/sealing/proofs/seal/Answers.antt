use mathlib.Core.Path.{sym, ◌∙◌}
use Rattle.std.proofs.Common.{rules}
use Rattle.answers.proofs.AnswerLaws.{given-done, given-refused}
use Rattle.calls.specs.Calls.{seal_answer, sealed_with, sealed_bytes, seal_out}
use Rattle.sealing.proofs.seal.Goals as goal

pub returns-then-not-fits : goal.returns-then-not-fits
unfolding seal_answer seal_out
returns-then-not-fits c = record { value = search rules; out_after = search rules }

pub returns-in_err-p : goal.returns-in_err-p
unfolding seal_answer seal_out
returns-in_err-p c =
    let h = given-refused _ (sym c.in_err-p.was ∙ c.encapsulate_noise.ensures) in
    record { value = search (rules, h); out_after = search (rules, h) }

pub returns : goal.returns
unfolding seal_answer sealed_with sealed_bytes seal_out
returns c =
    let h = given-done (sym c.in_ok-p.was ∙ c.encapsulate_noise.ensures) in
    record { value = search (rules, h.0); out_after = search (rules, h.0, h.1) }

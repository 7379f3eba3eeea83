use mathlib.Core.Path.{sym, ◌∙◌}
use Rattle.std.proofs.Common.{rules}
use Rattle.answers.proofs.AnswerLaws.{given-done, given-refused}
use Rattle.batch_calls.specs.Calls.{seal_batch_answer, batch_with, sealed_batch, seal_batch_out}
use Rattle.batch_sealing.proofs.seal_batch.Goals as goal

pub returns-then-size-ne0 : goal.returns-then-size-ne0
unfolding seal_batch_answer seal_batch_out
returns-then-size-ne0 c = record { value = search rules; out_after = search rules }

pub returns-then-not-is_count : goal.returns-then-not-is_count
unfolding seal_batch_answer seal_batch_out
returns-then-not-is_count c = record { value = search rules; out_after = search rules }

pub returns-then-not-fits : goal.returns-then-not-fits
unfolding seal_batch_answer seal_batch_out
returns-then-not-fits c = record { value = search rules; out_after = search rules }

pub returns-in_err-p : goal.returns-in_err-p
unfolding seal_batch_answer seal_batch_out
returns-in_err-p c =
    let h = given-refused _ (sym c.in_err-p.was ∙ c.encapsulate_noise.ensures) in
    record { value = search (rules, h); out_after = search (rules, h) }

pub returns : goal.returns
unfolding seal_batch_answer batch_with sealed_batch seal_batch_out
returns c =
    let h = given-done (sym c.in_ok-p.was ∙ c.encapsulate_noise.ensures) in
    record { value = search (rules, h.0); out_after = search (rules, h.0, h.1) }

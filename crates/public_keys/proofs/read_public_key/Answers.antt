use mathlib.Core.Path.{sym, ap, ◌∙◌}
use Rattle.std.specs.Prelude.{Ok, ok_or}
use Rattle.std.proofs.Common.{rules}
use Rattle.scheme.specs.Answers.{public_key}
use Rattle.answers.specs.declared.Refusal.TheVariants.{NotInvertible}
use Rattle.answers.specs.Answers.{and_then}
use Rattle.answers.proofs.AnswerLaws.{given-done, given-refused}
use Rattle.public_keys.specs.declared.Parts.{Parts}
use Rattle.public_keys.specs.PublicKeys.{inverse_answer, public_answer}
use Rattle.public_keys.proofs.PublicLaws.{inverse_or}
use Rattle.public_keys.proofs.read_public_key.Goals as goal

pub returns-in_err-read : goal.returns-in_err-read
unfolding public_answer
returns-in_err-read c =
    let h = given-refused _ (sym c.in_err-read.was ∙ c.read_parts.ensures) in
    search (rules, h)

pub returns : goal.returns
unfolding public_answer
returns c =
    let k = c.in_ok-read.read in
    let h = given-done (sym c.in_ok-read.was ∙ c.read_parts.ensures) in
    let made = c.ok_or.ensures.value ∙ ap (λ o. ok_or o NotInvertible) c.public_key.ensures ∙ inverse_or k.b (public_key k.a k.b) in
    let read = ap (λ (p : Parts). and_then (inverse_answer p.b) (Ok (public_key p.a p.b))) h.1 in
    made ∙ read ∙ search (rules, h.0)

use mathlib.Core.Path.{ap, ap₂, ◌∙◌}
use mathlib.Core.Bool.{Bool}
use mathlib.Core.List.{◌++◌}
use Rattle.std.specs.Prelude.{is_some, unwrap_or}
use Rattle.std.proofs.Common.{rules}
use Rattle.scheme.specs.declared.Triple as Declared
use Rattle.scheme.specs.declared.Decapsulation.{Decapsulation}
use Rattle.derivation.specs.Derivation.{is_genuine, key0}
use Rattle.answers.specs.declared.Refusal.TheVariants.{DecapsulationFailure, TagMismatch}
use Rattle.answers.specs.Answers.{unless, and_then, Done}
use Rattle.recovery.specs.Outcomes.{outcome_by, quotients_by}
use Rattle.recovery.proofs.Laws.{no_triple, found-answer, found_triple, found-quotients, and_is_then, verified-answer}
use Rattle.recovery.proofs.recover.Goals as goal

pub returns : goal.returns
returns c =
    let args = c.args in
    let blocks = args.front.now ++ args.body.now in
    let o = outcome_by args.key args.dummy args.c in
    let w = quotients_by args.key args.dummy args.c in
    let made = c.decapsulate-d.ensures in
    let t = c.unwrap_or-t.ensures ∙ ap (λ (d : Decapsulation). unwrap_or d.triple no_triple) made ∙ found_triple w o in
    let found = c.is_some.ensures ∙ ap (λ (d : Decapsulation). is_some d.triple) made in
    let first = c.unless-found.ensures ∙ ap (λ (b : Bool). unless b DecapsulationFailure Done) found ∙ found-answer w o in
    let genuine = c.verify-v.ensures.genuine_value ∙ ap (λ (t : Declared.Triple). is_genuine t.r t.e1 t.e2 blocks args.tag) t in
    let second = c.unless-genuine.ensures ∙ ap (λ (b : Bool). unless b TagMismatch Done) genuine in
    let answer = c.and-answer.ensures ∙ and_is_then c.unless-found.result c.unless-genuine.result ∙ ap₂ and_then first second ∙ verified-answer o blocks args.tag in
    let k0 = c.verify-v.ensures.k0_value ∙ ap (λ (t : Declared.Triple). key0 t.r t.e1 t.e2) t in
    let quotients = ap (λ (d : Decapsulation). d.quotients) made ∙ found-quotients w o in
    search (rules, answer, k0, quotients)

use mathlib.Core.Path.{ap, ◌∙◌}
use Rattle.std.specs.Prelude.{ok_or}
use Rattle.scheme.specs.declared.Decapsulation.{Decapsulation}
use Rattle.answers.specs.declared.Refusal.TheVariants.{DecapsulationFailure}
use Rattle.recovery.specs.Outcomes.{outcome_by, quotients_by}
use Rattle.recovery.proofs.Laws.{triple-given}
use Rattle.recovery.proofs.find_triple.Goals as goal

pub returns : goal.returns
returns c =
    let args = c.args in
    c.ok_or.ensures.value ∙ ap (λ (d : Decapsulation). ok_or d.triple DecapsulationFailure) c.decapsulate.ensures
    ∙ triple-given (quotients_by args.key args.dummy args.c) (outcome_by args.key args.dummy args.c)

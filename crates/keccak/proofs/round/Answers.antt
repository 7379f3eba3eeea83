use mathlib.Core.Path.{ap, ◌∙◌}
use borrow.Author.Rules.{rules}
use Rattle.keccak_steps.specs.Steps.{State, rho, pi, iota}
use Rattle.keccak_chi.specs.Complementing.{complemented_chi}
use Rattle.keccak_steps.proofs.Given.{wide}
use Rattle.keccak.proofs.Complementing.{round_steps}
use Rattle.keccak.proofs.round.Goals as goal

pub returns : goal.returns
returns c =
    let at-theta = c in
    let start = at-theta in
    let args = start.args in
    let a : State = args.a in
    let made = ap (iota args.ir) (c.chi.ensures ∙ ap complemented_chi (c.pi-linear.ensures ∙ ap pi (c.rho.ensures ∙ ap rho at-theta.theta.ensures)))
    ∙ round_steps args.ir a (wide a _ start.well_formed.0) in
    search (rules, made)

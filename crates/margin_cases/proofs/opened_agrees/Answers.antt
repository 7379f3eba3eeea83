use Rattle.std.proofs.Common.{rules}
use Rattle.margin_cases.specs.MarginCases.{opened_agrees}
use Rattle.margin_cases.proofs.opened_agrees.Goals as goal

pub returns-in-Ok : goal.returns-in-Ok
unfolding opened_agrees
returns-in-Ok c = search rules

pub returns-in-Err : goal.returns-in-Err
unfolding opened_agrees
returns-in-Err c = search rules

use mathlib.Core.Path.{ap₂, ◌∙◌}
use Rattle.vectors.specs.Answers.{verdict_of}
use Rattle.ring_cases.proofs.judge.Goals as goal

pub returns : goal.returns
returns c = c.judged.ensures ∙ ap₂ verdict_of c.is_case.ensures c.agrees.ensures

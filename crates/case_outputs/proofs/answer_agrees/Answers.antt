use mathlib.Core.Path.{ap₂}
use mathlib.Core.Bool.{◌&&◌}
use Rattle.case_outputs.specs.Outputs.{answer_agrees}
use Rattle.case_outputs.proofs.answer_agrees.Goals as goal

pub returns : goal.returns
unfolding answer_agrees
returns c = ap₂ ◌&&◌ c.is_told.ensures c.output_agrees.ensures

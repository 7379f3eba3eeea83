use Rattle.std.proofs.Common.{◌∙◌}
use lib.Seq.{take_all}
use Rattle.answer_line.proofs.Lines.{refusal-fits}
use Rattle.answer_line.proofs.refusal_line.Goals as goal

pub returns : goal.returns
returns c = c.line_of.ensures ∙ take_all 35 _ (refusal-fits c.args.n)

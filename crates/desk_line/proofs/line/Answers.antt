use Rattle.std.proofs.Common.{◌∙◌, ap}
use Rattle.answer_line.specs.Line.{opened_line}
use Rattle.desk_line.proofs.Lines.{opened_in_line}
use Rattle.desk_line.proofs.line.Goals as goal

pub returns : goal.returns
returns c = c.line.ensures ∙ ap opened_line c.open_input.ensures ∙ opened_in_line c.args.input.now

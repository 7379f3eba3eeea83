use mathlib.Core.Path.{ap, ◌∙◌}
use Rattle.case_outputs.proofs.Outputs.{filled-output}
use Rattle.margin_cases.specs.MarginCases.{open_margin_agrees}
use Rattle.margin_cases.proofs.open_margin_case_agrees.Goals as goal

pub returns : goal.returns
returns c =
    let sized = c in
    let text = sized.args.text.now in
    c.open_margin_agrees.ensures.value
    ∙ ap (open_margin_agrees text) (filled-output 3 text sized.room-size.ensures.0 sized.output_buffer-out.ensures)

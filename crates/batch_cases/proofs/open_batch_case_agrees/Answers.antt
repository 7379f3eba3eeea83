use mathlib.Core.Path.{ap, ◌∙◌}
use Rattle.case_outputs.proofs.Outputs.{filled-output}
use Rattle.batch_cases.specs.BatchCases.{open_batch_agrees}
use Rattle.batch_cases.proofs.open_batch_case_agrees.Goals as goal

pub returns : goal.returns
returns c =
    let sized = c in
    let text = sized.args.text.now in
    c.open_batch_agrees.ensures.value
    ∙ ap (open_batch_agrees text) (filled-output 3 text sized.room-size.ensures.0 sized.output_buffer-out.ensures)

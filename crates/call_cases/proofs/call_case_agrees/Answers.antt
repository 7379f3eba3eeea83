use mathlib.Core.Path.{ap, ◌∙◌}
use Prim.Native.Nat.{ℕ}
use Rattle.case_outputs.specs.Outputs.{room}
use Rattle.call_cases.specs.CallCases.{size_field, call_agrees}
use Rattle.case_outputs.proofs.Outputs.{filled-output}
use Rattle.call_cases.proofs.call_case_agrees.Goals as goal

pub returns : goal.returns
returns c =
    let sized = c in
    let place = sized in
    let args = place.args in
    let text = args.text.now in
    let size = sized.room-size.ensures.0 ∙ ap (λ (k : ℕ). room k text) place.size_field.ensures.0 in
    c.call_agrees.ensures.value
    ∙ ap (call_agrees args.call text) (filled-output (size_field args.call) text size place.output_buffer-out.ensures)

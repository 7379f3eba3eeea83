use mathlib.Core.Path.{ap₂, ◌∙◌}
use Rattle.key_cases.specs.KeyCases.{keygen_agrees}
use Rattle.case_outputs.proofs.Outputs.{filled-output}
use Rattle.key_cases.proofs.keygen_case_agrees.Goals as goal

pub returns : goal.returns
returns c =
    let judged = c in
    let second = judged in
    let first = second in
    let secrets = first in
    let args = secrets.args in
    let text = args.text.now in
    judged.keygen_agrees.ensures.value
    ∙ ap₂ (keygen_agrees args.source text)
    (filled-output 3 text first.room-public_size.ensures.0 secrets.output_buffer-public.ensures)
    (filled-output 4 text second.room-secret_size.ensures.0 secrets.output_buffer-secret.ensures)

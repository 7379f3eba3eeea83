use mathlib.Core.Path.{refl, ap, ap₂, ◌∙◌}
use Rattle.lists.proofs.Zeros.{size-zeros}
use Rattle.encoding.specs.Codes.{ternary_bytes}
use Rattle.encoding.proofs.Codes.{length-ternary_bytes}
use Rattle.encoding.proofs.Buffers.{put-exact}
use Rattle.vectors.specs.Answers.{is_same}
use Rattle.sampling_cases.proofs.noise_agrees.Goals as goal

pub returns : goal.returns
returns c =
    let written = c in
    let drawn = written.ternary.ensures in
    let bytes = written.encode_ternary.ensures ∙ put-exact _ _ (length-ternary_bytes _ ∙ size-zeros 256) ∙ ap ternary_bytes drawn in
    c.same.ensures ∙ ap₂ is_same bytes refl

use mathlib.Core.Path.{refl, ap, ap₂, ◌∙◌}
use Rattle.lists.proofs.Zeros.{size-zeros}
use Rattle.encoding.specs.Words.{element_bytes}
use Rattle.encoding.proofs.Words.{length-element_bytes}
use Rattle.encoding.proofs.Buffers.{put-exact}
use Rattle.vectors.specs.Answers.{is_same}
use Rattle.sampling_cases.proofs.element_agrees.Goals as goal

pub returns : goal.returns
returns c =
    let written = c in
    let drawn = written.uniform.ensures.1 in
    let bytes = written.encode_element.ensures ∙ put-exact _ _ (length-element_bytes _ ∙ size-zeros 2048) ∙ ap element_bytes drawn in
    c.same.ensures ∙ ap₂ is_same bytes refl

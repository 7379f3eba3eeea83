use mathlib.Core.Path.{refl, ap₂, ◌∙◌}
use mathlib.Core.Bool.{◌&&◌}
use Rattle.case_outputs.specs.Outputs.{answer_agrees}
use Rattle.lists.proofs.Equal.{ap₅}
use Rattle.key_cases.proofs.keys_agree.Goals as goal

pub returns : goal.returns
returns c =
    let public = c in
    let located = public in
    let told = located.number-told.ensures in
    let words = located.field-words.ensures in
    ap₂ ◌&&◌
    (public.answer_agrees.ensures ∙ ap₅ answer_agrees refl told words public.field.ensures refl)
    (c.answer_agrees-2.ensures ∙ ap₅ answer_agrees refl told words c.field-2.ensures refl)

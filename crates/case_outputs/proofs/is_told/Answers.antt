use mathlib.Core.Path.{refl, ap, ap₂, ◌∙◌}
use mathlib.Core.Bool.{◌&&◌}
use lib.Dec.{eqb}
use Rattle.answers.specs.declared.Location.{Location}
use Rattle.location_text.specs.Words.{location_text}
use Rattle.vectors.specs.Answers.{is_same}
use Rattle.case_outputs.specs.Outputs.{answer_told}
use Rattle.case_outputs.proofs.is_told.Goals as goal

pub returns : goal.returns
unfolding answer_told
returns c =
    let words = c.args.words.now in
    let located = c.is_located.ensures ∙ ap (λ (l : Location). is_same (location_text l) words) c.locate.ensures in
    ap₂ ◌&&◌ (ap₂ eqb c.number.ensures refl) located

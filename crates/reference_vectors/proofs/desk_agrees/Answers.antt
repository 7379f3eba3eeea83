use mathlib.Core.Path.{ap, ap₂, ◌∙◌}
use mathlib.Core.Bool.{◌&&◌, ◌||◌}
use mathlib.Core.List.{List}
use Prim.Native.Nat.{ℕ}
use lib.Dec.{eqb}
use lib.ListN.{length}
use Rattle.answers.specs.declared.Location.{Location}
use Rattle.answers.specs.Answers.{number}
use Rattle.answers.specs.Locations.{location}
use Rattle.location_text.specs.Words.{location_text}
use Rattle.vectors.specs.Answers.{is_same}
use Rattle.desk_opening.specs.Input.{desk_answer}
use Rattle.reference_vectors.proofs.desk_agrees.Goals as goal

pub returns : goal.returns
returns c =
    let answer-is = c.answer-answer.ensures ∙ ap desk_answer c.field.ensures in
    let none = ap (λ (l : List ℕ). eqb (length l) 0) c.field-words.ensures in
    let place = c.locate.ensures ∙ ap location answer-is in
    let same = c.is_located-located.ensures ∙ ap₂ (λ (l : Location) (w : List ℕ). is_same (location_text l) w) place c.field-words.ensures in
    ap₂ ◌&&◌
    (ap₂ ◌&&◌ (ap₂ eqb (c.number.ensures ∙ ap number answer-is) c.number-2.ensures) (ap₂ ◌||◌ none same))
    c.line_agrees.ensures

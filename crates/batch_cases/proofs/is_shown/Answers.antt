use mathlib.Core.Path.{refl, ap, ap₂, ◌∙◌}
use mathlib.Core.Bool.{◌&&◌}
use mathlib.Core.List.{List}
use Prim.Native.Nat.{ℕ, ◌*◌}
use lib.Dec.{eqb}
use Rattle.vectors.specs.Answers.{is_same}
use Rattle.case_outputs.specs.Outputs.{filled}
use Rattle.batch_cases.specs.BatchCases.{is_shown}
use Rattle.batch_cases.proofs.Entries.{front, behind}
use Rattle.batch_cases.proofs.is_shown.Goals as goal

pub returns : goal.returns
unfolding is_shown
returns c =
    let compared = c in
    let cut = compared in
    let args = cut.args in
    let size = 16 * args.count in
    let after = args.after.now in
    ap₂ ◌&&◌
    (ap₂ ◌&&◌
    (ap₂ eqb refl cut.number-told.ensures)
    (compared.same.ensures ∙ ap₂ is_same (front size after cut.lesser-end.ensures) compared.field.ensures))
    (c.is_filled.ensures ∙ ap (λ (l : List ℕ). is_same l (filled l)) (behind size after cut.lesser-end.ensures))

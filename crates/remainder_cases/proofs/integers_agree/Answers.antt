use mathlib.Core.Path.{ap, ap₂, ◌∙◌}
use mathlib.Core.Bool.{◌&&◌}
use mir.Syntax.{w16, w32}
use Rattle.ring.specs.Centred.{centred_remainder, centred_quotient}
use Rattle.remainder_cases.specs.Remainders.{is_same_integer}
use Rattle.ring.proofs.SignedValues.{read_back, widened-fits}
use Rattle.remainder_cases.proofs.Words.{compared}
use Rattle.remainder_cases.proofs.integers_agree.Goals as goal

pub returns : goal.returns
returns c =
    let second = c in
    let first = second in
    let told = first in
    let divided = told in
    let m = divided.centred-found in
    let d = divided.centred_division-d in
    let fits = told.struct_told-1.given in
    let m-read = read_back w16 m.result m.type_inv in
    let m-is = m-read ∙ m.ensures in
    let r_is = read_back w16 d.result.remainder fits.0.1 ∙ d.ensures.0 ∙ ap centred_remainder m-is in
    let k-is = read_back w16 d.result.quotient fits.1.0.1 ∙ d.ensures.1 ∙ ap centred_quotient m-is in
    let m-told = first.signed in
    let r-told = second.signed-2 in
    let k-told = c.signed-3 in
    ap₂ ◌&&◌
    (ap₂ ◌&&◌
    (compared _ _ (widened-fits w16 w32 m.result tt m.type_inv) (record { sfits = m-told.type_inv }) ∙ ap₂ is_same_integer m-is m-told.ensures)
    (compared _ _ (widened-fits w16 w32 d.result.remainder tt fits.0.1) (record { sfits = r-told.type_inv }) ∙ ap₂ is_same_integer r_is r-told.ensures))
    (compared _ _ (widened-fits w16 w32 d.result.quotient tt fits.1.0.1) (record { sfits = k-told.type_inv }) ∙ ap₂ is_same_integer k-is k-told.ensures)

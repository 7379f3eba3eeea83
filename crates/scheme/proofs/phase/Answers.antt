use mathlib.Core.Path.{◌≡◌, ap, ◌∙◌}
use lib.ListN.{length}
use Rattle.ntt.specs.Spectrum.{coefficients_of}
use Rattle.ring.specs.Ring.{difference}
use Rattle.scheme.proofs.Steps.{phase_by-spectra}
use borrow.Author.Rules.{rules}
use Rattle.scheme.proofs.phase.Goals as goal

pub returns : goal.returns
returns c =
    let start = c in
    let args = start.args in
    let hv : length args.second ≡ 1024 = search (rules, start.well_formed.0) in
    let hp : length args.product ≡ 1024 = search (rules, start.well_formed.1.0) in
    c.backward.ensures
    ∙ ap coefficients_of (c.difference.ensures ∙ ap (difference args.second) c.multiple.ensures)
    ∙ phase_by-spectra args.second args.product hv hp

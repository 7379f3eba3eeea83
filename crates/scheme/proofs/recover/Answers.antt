use mathlib.Core.Path.{◌≡◌, refl, ap, ◌∙◌}
use mathlib.Core.List.{List}
use Prim.Native.Nat.{ℕ}
use lib.ListN.{length}
use Rattle.exactness.specs.Scheme as AnySetting
use Rattle.ntt.specs.Spectrum.{coefficients_of, pointwise}
use Rattle.ring.specs.Ring.{difference, product}
use Rattle.scheme.proofs.Steps.{triple-same, r_by-spectra, e1_by-spectra}
use borrow.Author.Rules.{rules}
use Rattle.scheme.proofs.recover.Goals as goal

pub returns : goal.returns
unfolding AnySetting.recovered AnySetting.recovered_r AnySetting.recovered_e1
returns c =
    let made = c in
    let start = made in
    let args = start.args in
    let ha : length args.a ≡ 1024 = search (rules, start.well_formed.0) in
    let hi : length args.inverse ≡ 1024 = search (rules, start.well_formed.1.0) in
    let first : length args.sums.first ≡ 1024 = search (rules, start.well_formed.1.1.0) in
    let second : length args.sums.second ≡ 1024 = search (rules, start.well_formed.1.1.0) in
    let he : length args.e2 ≡ 1024 = search (rules, start.well_formed.1.1.1.0) in
    let spectrum = made.pointwise-r_spectrum.result in
    let size : length spectrum ≡ 1024 = search rules in
    let r : coefficients_of spectrum ≡ product (difference (coefficients_of args.sums.second) args.e2) (coefficients_of args.inverse) =
    ap coefficients_of (made.pointwise-r_spectrum.ensures ∙ ap (λ (x : List ℕ). pointwise x args.inverse) made.difference-rest.ensures)
    ∙ r_by-spectra args.inverse args.sums.second args.e2 _ hi second he made.forward.ensures in
    triple-same
    (c.backward.ensures ∙ r)
    (c.backward-2.ensures
    ∙ ap coefficients_of (c.difference-e1_spectrum.ensures ∙ ap (difference args.sums.first) c.pointwise.ensures)
    ∙ e1_by-spectra args.a args.sums.first spectrum ha first size
    ∙ ap (λ (x : List ℕ). difference (coefficients_of args.sums.first) (product (coefficients_of args.a) x)) r)
    refl

use mathlib.Core.Path.{◌≡◌, ap, ap₂, ◌∙◌}
use mathlib.Core.List.{List}
use Prim.Native.Nat.{ℕ}
use lib.ListN.{length}
use Rattle.ntt.specs.Spectrum.{coefficients_of}
use Rattle.ring.specs.Centred.{is_within}
use Rattle.scheme.specs.Scheme.{key_error}
use Rattle.scheme.proofs.Steps.{error_through}
use borrow.Author.Rules.{rules}
use Rattle.scheme.proofs.check_key.Goals as goal

pub returns : goal.returns
returns c =
    let spectra = c in
    let start = spectra in
    let args = start.args in
    let ha : length args.a ≡ 1024 = search (rules, start.well_formed.0) in
    let hs : length args.s ≡ 1024 = search (rules, start.well_formed.1.1.0) in
    let a = spectra.forward-a_spectrum.ensures in
    let b = spectra.forward-b_spectrum.ensures in
    let s = spectra.forward-s_spectrum.ensures in
    let error = c.key_error-error.ensures
    ∙ ap₂ (λ (x y : List ℕ). key_error (coefficients_of x) args.b (coefficients_of y)) a s ∙ error_through args.a args.b args.s ha hs in record { matches_value = c.is_within-matches.ensures ∙ ap (is_within 1) error; a_value = (a, b, s) }

use mathlib.Core.Path.{◌≡◌, ap, ◌∙◌}
use lib.ListN.{length}
use Rattle.ntt.specs.Spectrum.{spectrum_of}
use Rattle.scheme.proofs.Steps.{summed_by-spectra}
use borrow.Author.Rules.{rules}
use Rattle.scheme.proofs.add_dummy.Goals as goal

pub returns : goal.returns
returns c =
    let second = c in
    let first = second in
    let transformed = first in
    let start = transformed in
    let args = start.args in
    let dummy = args.dummy in
    let ha : length args.a ≡ 1024 = search (rules, start.well_formed.0) in
    let hb : length args.b ≡ 1024 = search (rules, start.well_formed.1.0) in
    let hr : length dummy.r ≡ 1024 = search (rules, start.well_formed.1.1.0.1) in
    let r = transformed.forward-r_spectrum.ensures in record {
      first_value = summed_by-spectra args.a dummy.r dummy.e1 args.c.c1 _ _ _ _ ha hr r
          (first.forward-rest1.ensures ∙ ap spectrum_of first.sum.ensures) c.pointwise.ensures c.sum-3.ensures;
      second_value = summed_by-spectra args.b dummy.r dummy.e2 args.c.c2 _ _ _ _ hb hr r
          (second.forward-rest2.ensures ∙ ap spectrum_of second.sum-2.ensures) c.pointwise-2.ensures c.sum-4.ensures;
    }

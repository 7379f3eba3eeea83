use mathlib.Core.Path.{◌≡◌}
use lib.ListN.{length}
use Rattle.scheme.proofs.Steps.{masked_by-spectra}
use borrow.Author.Rules.{rules}
use Rattle.scheme.proofs.encapsulate.Goals as goal

pub returns : goal.returns
returns c =
    let transformed = c in
    let start = transformed in
    let args = start.args in
    let t = args.t in
    let size : length t.r ≡ 1024 = search (rules, start.well_formed.1.1.0) in (
      masked_by-spectra args.key.a t.r t.e1 _ _ _ size transformed.forward-r_spectrum.ensures c.product_of_spectra.ensures c.sum-c1.ensures,
      masked_by-spectra args.key.b t.r t.e2 _ _ _ size transformed.forward-r_spectrum.ensures c.product_of_spectra-2.ensures c.sum-c2.ensures,
    )

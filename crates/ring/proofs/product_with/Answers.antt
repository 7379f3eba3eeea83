use mathlib.Core.Path.{◌≡◌, ap, ap₂, ◌∙◌}
use lib.ListN.{length}
use Rattle.ntt.specs.Spectrum.{coefficients_of, pointwise}
use Rattle.ntt.proofs.Spectrum.{product_by_transform}
use borrow.Author.Rules.{rules}
use Rattle.ring.proofs.product_with.Goals as goal

pub returns : goal.returns
returns c =
    let args = c.args in
    let ha : length args.a ≡ 1024 = search rules in
    let hb : length args.b ≡ 1024 = search rules in
    c.backward_product.ensures ∙ ap coefficients_of (ap₂ pointwise c.forward-x.ensures c.forward-y.ensures)
    ∙ product_by_transform args.a args.b ha hb

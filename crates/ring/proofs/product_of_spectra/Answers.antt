use mathlib.Core.Path.{◌≡◌, ◌∙◌}
use lib.ListN.{length}
use borrow.Author.Rules.{rules}
use Rattle.ring.proofs.Transforms.{product_by-spectra}
use Rattle.ring.proofs.product_of_spectra.Goals as goal

pub returns : goal.returns
returns c =
    let args = c.args in
    let hx : length args.x ≡ 1024 = search rules in
    let hy : length args.y ≡ 1024 = search rules in
    c.backward_product.ensures ∙ product_by-spectra args.x args.y hx hy

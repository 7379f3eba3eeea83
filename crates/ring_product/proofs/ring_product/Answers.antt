use mathlib.Core.Path.{◌≡◌, sym, ap, ap₂, ◌∙◌}
use mathlib.Core.Bool.{true, false, ◌&&◌}
use lib.Dec.{eqb}
use lib.ListN.{length}
use borrow.Author.Tests.{eqb-true}
use Rattle.lists.proofs.Both.{both}
use Rattle.ring.specs.Ring.{product}
use Rattle.encoding.specs.Words.{element_bytes}
use Rattle.encoding.proofs.Words.{length-element_bytes}
use Rattle.encoding.proofs.Buffers.{put-exact}
use Rattle.ring_product.specs.Product.{fit, product_number, product_out}
use Rattle.ring_product.proofs.ring_product.Goals as goal

pub returns-then-not-fits : goal.returns-then-not-fits
unfolding product_number product_out
returns-then-not-fits c =
    let args = c.args in
    let misfit : fit args.a.now args.b.now args.out.now ≡ false = c.if-not-fits.true in record { value = rw misfit; out_after = rw misfit }

pub returns : goal.returns
unfolding product_number product_out
returns c =
    let written = c in
    let made = written in
    let left = made in
    let args = left.args in
    let fits : fit args.a.now args.b.now args.out.now ≡ true = left.if-not-fits.false in
    let room : length args.out.now ≡ 2048 = eqb-true _ _ (both (eqb (length args.a.now) 2048 && eqb (length args.b.now) 2048) _ fits).1 in
    let value = made.product.ensures ∙ ap₂ product made.decode_element-x.ensures made.decode_element-y.ensures in record { value = rw fits; out_after = rw fits (written.encode_element.ensures ∙ put-exact _ _ (length-element_bytes _ ∙ sym room) ∙ ap element_bytes value) }

use Rattle.ntt.proofs.Factors.{forward-size, backward-size}
use Rattle.ring.proofs.product.Goals as goal

pub slice_bounds-product_with-end : goal.slice_bounds-product_with-end
slice_bounds-product_with-end c = forward-size c.forward_factors.ensures

pub slice_bounds-product_with-end-2 : goal.slice_bounds-product_with-end-2
slice_bounds-product_with-end-2 c = backward-size c.backward_factors.ensures

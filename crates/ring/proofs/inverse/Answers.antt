use Rattle.ntt.proofs.Factors.{forward-size, backward-size}
use Rattle.ring.proofs.inverse.Goals as goal

pub slice_bounds-inverse_with-end : goal.slice_bounds-inverse_with-end
slice_bounds-inverse_with-end c = forward-size c.forward_factors.ensures

pub slice_bounds-inverse_with-end-2 : goal.slice_bounds-inverse_with-end-2
slice_bounds-inverse_with-end-2 c = backward-size c.backward_factors.ensures

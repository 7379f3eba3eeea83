use mathlib.Core.Path.{◌∙◌}
use Rattle.ring_cases.proofs.is_case.Goals as goal

pub returns-in-Products : goal.returns-in-Products
returns-in-Products c = rw c.in-Products.is c.has_sizes.ensures

pub returns-in-Inverses : goal.returns-in-Inverses
returns-in-Inverses c =
    let sized = c in
    rw sized.in-Inverses.is (c.has_sizes-in-Inverses.ensures ∙ rw (sized.inverse_size-size.ensures, sized.number.ensures))

pub returns-in-Remainders : goal.returns-in-Remainders
returns-in-Remainders c = rw c.in-Remainders.is c.has_sizes-in-Remainders.ensures

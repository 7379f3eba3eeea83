use mathlib.Core.Path.{◌∙◌}
use Rattle.twiddles.proofs.Factors.{forward-spread}
use Rattle.twiddles.proofs.forward_factors.Goals as goal

pub returns : goal.returns
returns c =
    c.pair_factors.ensures ∙ forward-spread _ _ c.block_factors-f.ensures c.exponents.ensures

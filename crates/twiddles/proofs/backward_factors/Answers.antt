use mathlib.Core.Path.{◌∙◌}
use Rattle.twiddles.proofs.Factors.{backward-spread}
use Rattle.twiddles.proofs.backward_factors.Goals as goal

pub returns : goal.returns
returns c =
    c.pair_factors.ensures ∙ backward-spread _ _ c.block_factors-f.ensures c.opposites.ensures

use mathlib.Core.Path.{ap₂, ◌∙◌}
use Rattle.exactness.specs.Scheme as AnySetting
use Rattle.ring.specs.Ring.{difference}
use Rattle.scheme.proofs.key_error.Goals as goal

pub returns : goal.returns
unfolding AnySetting.key_error
returns c =
    c.difference.ensures ∙ ap₂ difference c.multiple.ensures c.product_of_spectra-product.ensures

use mathlib.Core.Path.{ap, ap₂, ◌∙◌}
use Rattle.gf128.specs.Field.{times}
use Rattle.gf128.specs.Bytes.{bytes, product}
use Rattle.gf128.proofs.product.Goals as goal

pub returns : goal.returns
unfolding product
returns c =
    c.store.ensures
    ∙ ap (bytes 16) (c.mul.ensures ∙ ap₂ times c.load.ensures c.load-2.ensures)

use mathlib.Core.Path.{sym, ap, subst, ◌∙◌}
use Rattle.algebra.specs.Numbers.{Below}
use Rattle.algebra.proofs.Elements as El
use Rattle.modq.proofs.Prime.{q-positive}
use Rattle.ntt.specs.Spectrum.{q, degree, inverse_degree}
use Rattle.ntt.specs.Factors.{backward_layers}
use Rattle.ntt.proofs.Spectrum.{length-pointwise, backward-layers_are}
use borrow.Author.Rules.{rules}
use Rattle.ntt.proofs.backward_product.Goals as goal

pub backward_layers-requires : goal.backward_layers-requires
backward_layers-requires c = record { below = subst (Below q) (sym c.divided_pointwise.ensures) (El.scale-element q q-positive degree inverse_degree _).below; w_value = search rules }

pub returns : goal.returns
returns c =
    c.backward_layers.ensures ∙ ap backward_layers c.divided_pointwise.ensures ∙ backward-layers_are _ (length-pointwise _ _)

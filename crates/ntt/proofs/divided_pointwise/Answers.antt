use mathlib.Core.Path.{sym, ap, ◌∙◌}
use Rattle.lists.proofs.Fill.{filled_none, filled_more, filled-all}
use Rattle.algebra.specs.Numbers.{mul_mod}
use Rattle.algebra.proofs.Elements as El
use Rattle.modq.proofs.Prime.{q-positive}
use Rattle.ntt.specs.Spectrum.{q, degree, inverse_degree}
use Rattle.ntt.proofs.Spectrum.{pointwise-at}
use borrow.Author.Rules.{rules}
use Rattle.ntt.proofs.divided_pointwise.Goals as goal

pub loop-i-init : goal.loop-i-init
loop-i-init c = filled_none _ _ (El.scale-element q q-positive degree inverse_degree _).size (search rules)

pub loop-i-preserved : goal.loop-i-preserved
loop-i-preserved c =
    let start = c in
    filled_more 0 start.loop-i.invariant (search rules) (
    c.divided_product.ensures ∙ ap (mul_mod q inverse_degree) (sym (pointwise-at _ _ start.loop-i.i (search rules)))
    ∙ sym (El.scale_at q q-positive degree inverse_degree _ start.loop-i.i (search rules)))

pub returns : goal.returns
returns c = filled-all c.loop-i.invariant (search rules)

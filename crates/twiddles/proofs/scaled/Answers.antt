use mathlib.Core.Path.{sym, ◌∙◌}
use Rattle.lists.proofs.Fill.{filled_none, filled_more, filled-all}
use Rattle.algebra.proofs.Elements as El
use Rattle.twiddles.specs.Powers.{q, degree}
use Rattle.modq.proofs.Prime.{q-positive}
use borrow.Author.Rules.{rules}
use Rattle.twiddles.proofs.scaled.Goals as goal

pub loop-i-init : goal.loop-i-init
loop-i-init c = filled_none _ _ (El.scale-element q q-positive degree _ _).size (search rules)

pub loop-i-preserved : goal.loop-i-preserved
loop-i-preserved c =
    let start = c in
    filled_more 0 start.loop-i.invariant (search rules) (c.montgomery_product.ensures ∙ sym (El.scale_at q q-positive degree _ _ start.loop-i.i (search rules)))

pub returns : goal.returns
returns c = filled-all c.loop-i.invariant (search rules)

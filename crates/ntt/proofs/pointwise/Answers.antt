use mathlib.Core.Path.{sym, ◌∙◌}
use Rattle.lists.proofs.Fill.{filled_none, filled_more, filled-all}
use Rattle.ntt.proofs.Spectrum.{pointwise-at, length-pointwise}
use borrow.Author.Rules.{rules}
use Rattle.ntt.proofs.pointwise.Goals as goal

pub loop-i-init : goal.loop-i-init
loop-i-init c = filled_none _ _ (length-pointwise _ _) (search rules)

pub loop-i-preserved : goal.loop-i-preserved
loop-i-preserved c =
    let start = c in
    filled_more 0 start.loop-i.invariant (search rules) (c.multiply.ensures ∙ sym (pointwise-at _ _ start.loop-i.i (search rules)))

pub returns : goal.returns
returns c = filled-all c.loop-i.invariant (search rules)

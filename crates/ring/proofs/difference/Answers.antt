use mathlib.Core.Path.{refl, sym, ◌∙◌}
use Rattle.lists.proofs.Fill.{filled_none, filled_more, filled-all}
use Rattle.algebra.proofs.Elements.{minus-element, minus-at}
use Rattle.modq.proofs.Prime.{q-positive}
use Rattle.ring.specs.Ring.{q, n}
use Rattle.ring.proofs.difference.Goals as goal

pub loop-k-init : goal.loop-k-init
loop-k-init c = filled_none _ _ (minus-element q q-positive n _ _).size refl

pub loop-k-preserved : goal.loop-k-preserved
loop-k-preserved c =
    let at = c in
    filled_more 0 at.loop-k.invariant c.loop-k-test.true
    (c.sub.ensures ∙ sym (minus-at q q-positive n _ _ at.loop-k.k c.loop-k-test.true))

pub returns : goal.returns
returns c = filled-all c.loop-k.invariant c.loop-k-test.false

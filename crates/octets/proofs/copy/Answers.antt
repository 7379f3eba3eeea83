use mathlib.Core.Path.{refl}
use native.Mathlib.Omega.{arith}
use Rattle.lists.proofs.Fill.{filled_none, filled_more, filled-all}
use borrow.Author.Rules.{rules}
use Rattle.octets.proofs.copy.Goals as goal

pub loop-i-init : goal.loop-i-init
loop-i-init c = filled_none _ _ (search rules) (search rules)

pub loop-i-preserved : goal.loop-i-preserved
loop-i-preserved c = filled_more 0 c.loop-i.invariant (omega arith) refl

pub returns : goal.returns
returns c = filled-all c.loop-i.invariant (omega arith)

use native.Mathlib.Omega.{arith}
use Rattle.gf128.proofs.InPlace.{added_none, added_more, added_all}
use borrow.Author.Rules.{rules}
use Rattle.gf128.proofs.add_to.Goals as goal

pub loop-k-init : goal.loop-k-init
loop-k-init c = added_none _ _ (search rules) (search rules)

pub loop-k-preserved : goal.loop-k-preserved
loop-k-preserved c = added_more c.loop-k.invariant (omega arith)

pub returns : goal.returns
returns c = added_all c.loop-k.invariant (omega arith)

use mathlib.Core.Path.{sym, ◌∙◌}
use lib.ListN.{length}
use Rattle.lists.proofs.Tables.{length-table}
use Rattle.lists.proofs.Fill.{filled_none, filled-more-by, filled-all}
use Rattle.lists.proofs.ByteLists.{part-get_or}
use borrow.Author.Rules.{rules}
use Rattle.twiddles.proofs.first_factors.Goals as goal

pub loop-i-init : goal.loop-i-init
loop-i-init c = filled_none _ _ (length-table _ _) (search rules)

pub loop-i-preserved : goal.loop-i-preserved
loop-i-preserved c = filled-more-by _ 0 c.loop-i.invariant (search rules) (search rules)

pub returns : goal.returns
returns c =
    let start = c in
    let n = length start.args.w.now in
    filled-all c.loop-i.invariant (search rules) ∙ sym (part-get_or n n start.args.f.now start.requires)

use mathlib.Core.Path.{◌≡◌, sym, ◌∙◌}
use Prim.Native.Nat.{◌/◌}
use lib.ListN.{get_or}
use Rattle.lists.proofs.Fill.{filled_at}
use Rattle.twiddles.proofs.Reversal.{reversed-start}
use Rattle.lists.proofs.Fill.{filled-more-by, filled-all}
use Rattle.lists.proofs.Tables.{length-table, get_or-table}
use Rattle.algebra.specs.Halving.{reversed}
use Rattle.twiddles.proofs.Reversal.{reversed_step, reversed-below}
use native.Mathlib.Omega.{arith}
use borrow.Author.Rules.{rules}
use Rattle.twiddles.proofs.exponents.Goals as goal

-- the entry that is read is filled already
past : (c : goal.In-loop-m) → get_or c.loop-m.r (c.loop-m.m / 2) 0 ≡ reversed 10 (c.loop-m.m / 2)
past c = filled_at 0 _ c.loop-m.invariant.1 (omega arith) ∙ get_or-table 1024 (reversed 10) _ 0 (omega arith)

pub loop-m-init : goal.loop-m-init
loop-m-init c = (search rules, record { within = omega arith; whole = length-table 1024 _; size = search rules; same = sym reversed-start })

pub overflow_add-r : goal.overflow_add-r
overflow_add-r c = record { fits = omega (arith, past c, reversed-below (c.loop-m.m / 2) (omega arith)) }

pub loop-m-preserved : goal.loop-m-preserved
loop-m-preserved c =
    (search rules, filled-more-by (reversed 10) 0 c.loop-m.invariant.1 (search rules) (omega (arith, past c, reversed_step c.loop-m.m (search rules))))

pub returns : goal.returns
returns c = filled-all c.loop-m.invariant.1 (search rules)

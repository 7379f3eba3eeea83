use mathlib.Core.Path.{sym, ◌∙◌}
use Prim.Native.Nat.{◌+◌, ◌*◌, ◌<◌}
use native.Mathlib.Omega.{arith}
use lib.ListN.{get_or}
use Rattle.lists.proofs.Tables.{length-table}
use Rattle.lists.proofs.Fill.{filled_none, filled-more-by, filled-all}
use Rattle.butterflies.proofs.Layers.{pairs_is}
use borrow.Author.Rules.{rules}
use Rattle.butterflies.proofs.pairs.Goals as goal

pub loop-j-init : goal.loop-j-init
loop-j-init c = filled_none _ _ (length-table 512 _) c.requires.0

pub overflow_cast-v : goal.overflow_cast-v
overflow_cast-v c = record { fits = omega (arith, c.shared_slice_known-1.given (2 * c.loop-j.j)) }

pub overflow_cast-v-in-loop-j : goal.overflow_cast-v-in-loop-j
overflow_cast-v-in-loop-j c =
    let odd : get_or c.args.a.now (2 * c.loop-j.j + 1) 0 < 65536 =
    omega (arith, c.shared_slice_known-in-loop-j-1.given (2 * c.loop-j.j + 1)) in
    record { fits = omega (arith, odd) }

pub overflow_mul-v-in-loop-j-2 : goal.overflow_mul-v-in-loop-j-2
overflow_mul-v-in-loop-j-2 c =
    let odd : get_or c.args.a.now (2 * c.loop-j.j + 1) 0 < 65536 =
    omega (arith, c.shared_slice_known-in-loop-j-1.given (2 * c.loop-j.j + 1)) in
    record { fits = omega (arith, odd) }

pub overflow_add-v-in-loop-j : goal.overflow_add-v-in-loop-j
overflow_add-v-in-loop-j c =
    let odd : get_or c.args.a.now (2 * c.loop-j.j + 1) 0 < 65536 =
    omega (arith, c.shared_slice_known-in-loop-j-1.given (2 * c.loop-j.j + 1)) in
    record { fits = omega (arith, c.shared_slice_known-1.given (2 * c.loop-j.j), odd) }

pub loop-j-preserved : goal.loop-j-preserved
loop-j-preserved c = filled-more-by _ 0 c.loop-j.invariant (search rules) (search rules)

pub shape_of-v : goal.shape_of-v
shape_of-v c = c.loop-j.invariant.size ∙ sym c.requires.0

pub returns : goal.returns
returns c = filled-all c.loop-j.invariant (search rules) ∙ sym (pairs_is 512 _)

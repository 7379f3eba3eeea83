use mathlib.Core.Path.{sym, ◌∙◌}
use native.Mathlib.Omega.{arith}
use Rattle.twiddles.proofs.Factors.{shifted}
use Rattle.twiddles.proofs.Repeats.{row-none, row_more, row_all, double-fits}
use borrow.Author.Rules.{rules}
use Rattle.twiddles.proofs.repeat.Goals as goal

pub loop-d-init : goal.loop-d-init
loop-d-init c = (search rules, search rules, row-none _ _ c.requires.0 c.requires.1)

pub overflow_add-m : goal.overflow_add-m
overflow_add-m c = record { fits = rw (shifted c.loop-d.d (omega arith)) (omega (arith, double-fits c.loop-d.d (omega arith))) }

pub slice_bounds-double-end : goal.slice_bounds-double-end
slice_bounds-double-end c = rw (shifted c.loop-d.d (omega arith)) (omega (arith, double-fits c.loop-d.d (omega arith), c.loop-d.invariant.2.size))

pub loop-d-preserved : goal.loop-d-preserved
loop-d-preserved c = (
  search rules,
  search rules,
  row_more c.args.w.now c.loop-d.w _ _ c.loop-d.d _ (shifted c.loop-d.d (omega arith)) c.loop-d.invariant.0 (search rules) c.loop-d.invariant.2 c.double.ensures,
)

pub shape_of-w : goal.shape_of-w
shape_of-w c = c.loop-d.invariant.2.size ∙ sym c.requires.0

pub returns : goal.returns
returns c = row_all c.loop-d.d (search rules) c.loop-d.invariant.1 c.loop-d.invariant.2

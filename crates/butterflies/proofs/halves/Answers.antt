use mathlib.Core.Path.{sym, ◌∙◌}
use native.Mathlib.Omega.{arith}
use lib.ListN.{length-set}
use Rattle.lists.proofs.Tables.{length-table, get_or-table}
use Rattle.lists.proofs.Fill.{filled-halves_none, filled-halves_more, filled-halves_all}
use Rattle.butterflies.proofs.Layers.{halves_is, halves-size}
use borrow.Author.Rules.{rules}
use Rattle.butterflies.proofs.halves.Goals as goal

pub loop-j-init : goal.loop-j-init
loop-j-init c = filled-halves_none 512 _ _ _ (length-table 512 _) (length-table 512 _) c.requires.0

pub bounds-p-j : goal.bounds-p-j
bounds-p-j c = omega (arith, halves-size c.loop-j.invariant)

pub overflow_cast-p-in-loop-j : goal.overflow_cast-p-in-loop-j
overflow_cast-p-in-loop-j c = record { fits = omega (arith, c.shared_slice_known-in-loop-j-1.given c.loop-j.j) }

pub bounds-p-j-in-loop-j : goal.bounds-p-j-in-loop-j
bounds-p-j-in-loop-j c = rw length-set (omega (arith, halves-size c.loop-j.invariant))

pub loop-j-preserved : goal.loop-j-preserved
loop-j-preserved c =
    let at = c in
    let j = at.loop-j.j in
    filled-halves_more 0 at.loop-j.invariant (search rules) (sym (get_or-table 512 _ j 0 (search rules))) (sym (get_or-table 512 _ j 0 (search rules)))

pub shape_of-p : goal.shape_of-p
shape_of-p c = halves-size c.loop-j.invariant ∙ sym c.requires.0

pub returns : goal.returns
returns c = filled-halves_all c.loop-j.invariant (search rules) ∙ sym (halves_is 512 _)

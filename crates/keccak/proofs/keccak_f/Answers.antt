use mathlib.Core.Path.{◌≡◌, refl, ap, ◌∙◌}
use native.Mathlib.Omega.{arith}
use borrow.Author.Rules.{rules}
use Rattle.keccak.specs.Complementing.{complemented}
use Rattle.keccak_steps.proofs.Given.{wide}
use Rattle.keccak.proofs.Complementing.{rounds_from, two_more, all-rounds}
use Rattle.keccak.proofs.keccak_f.Goals as goal

pub loop-i-init : goal.loop-i-init
loop-i-init c = (search rules, refl)

pub loop-i-preserved : goal.loop-i-preserved
loop-i-preserved c = (search rules, two_more _ _ c.loop-i.invariant.1 c.two_rounds-t.ensures)

pub returns : goal.returns
unfolding complemented
returns c =
    let start = c in
    let all : c.loop-i.i ≡ 12 = omega arith in
    let loop = rw all at c.loop-i.invariant.1 in
    c.complemented.ensures ∙ ap complemented (loop ∙ ap (rounds_from 0 24) c.complemented-s.ensures)
    ∙ all-rounds start.args.a (wide start.args.a _ start.well_formed.0)

use mathlib.Core.Path.{refl, sym, ap, ◌∙◌}
use lib.IntN.{pos}
use lib.ListN.{get_or-map, length-map}
use mir.Syntax.{w16}
use Rattle.lists.proofs.Fill.{filled_none, filled_more, filled-all}
use Rattle.ring.specs.Centred.{residue}
use Rattle.ring.proofs.SignedValues.{read_back}
use borrow.Author.Rules.{rules}
use Rattle.sampling.proofs.coefficients.Goals as goal

pub loop-i-init : goal.loop-i-init
loop-i-init c = filled_none _ _ (length-map c.args.values residue ∙ search rules) refl

pub loop-i-preserved : goal.loop-i-preserved
loop-i-preserved c =
    let at = c in
    let values = at.args.values in
    filled_more (residue (pos 0)) at.loop-i.invariant at.loop-i-test.true
    (c.residue.ensures ∙ ap residue (read_back w16 _ c.residue-arg-1.given) ∙ sym (get_or-map residue values at.loop-i.i (pos 0)))

pub returns : goal.returns
returns c = filled-all c.loop-i.invariant c.loop-i-test.false

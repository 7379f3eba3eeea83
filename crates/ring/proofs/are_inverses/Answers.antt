use mathlib.Core.Path.{◌≡◌, ◌∙◌}
use lib.ListN.{length}
use borrow.Author.Rules.{rules}
use Rattle.ring.proofs.Inverses.{reciprocals_decide}
use Rattle.ring.proofs.are_inverses.Goals as goal

pub returns : goal.returns
returns c =
    let args = c.args in
    let hx : length args.x ≡ 1024 = search rules in
    let hy : length args.y ≡ 1024 = search rules in
    c.are_reciprocals.ensures ∙ reciprocals_decide args.x args.y hx hy

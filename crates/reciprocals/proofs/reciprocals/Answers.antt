use mathlib.Core.Path.{◌≡◌, ap, ◌∙◌}
use lib.ListN.{length, drop}
use borrow.Author.Rules.{rules}
use Rattle.ntt.specs.Spectrum.{degree}
use Rattle.reciprocals.specs.Tree.{products_of, inverses_of}
use Rattle.reciprocals.proofs.Trees.{reciprocals_are}
use Rattle.reciprocals.proofs.reciprocals.Goals as goal

pub returns : goal.returns
returns c =
    let t = c.args.t in
    let size : length t ≡ degree = search rules in
    let h = c.products.ensures ∙ ap products_of c.leaves-h.ensures in
    let r = c.inverses-r.ensures ∙ ap inverses_of h in
    c.lower_half.ensures ∙ ap (drop degree) r ∙ reciprocals_are t size

use mathlib.Core.Path.{◌≡◌, sym, ap, ◌∙◌}
use lib.ListN.{length}
use Rattle.std.specs.Prelude.{Some}
use Rattle.ntt.specs.Spectrum.{coefficients_of}
use Rattle.ring.specs.Reciprocals.{has_zero, reciprocals_of}
use Rattle.ring.proofs.Transforms.{inverse_lacks, inverse_found}
use borrow.Author.Rules.{rules}
use Rattle.ring.proofs.inverse_with.Goals as goal

pub returns-then-has_zero : goal.returns-then-has_zero
returns-then-has_zero c =
    let args = c.args in
    let size : length args.b ≡ 1024 = search rules in
    inverse_lacks args.b size (sym (c.has_zero.ensures ∙ ap has_zero c.forward-t.ensures) ∙ c.if-has_zero.true)

pub returns : goal.returns
returns c =
    let args = c.args in
    let size : length args.b ≡ 1024 = search rules in
    let spectrum = c.forward-t.ensures in
    ap Some (c.backward.ensures ∙ ap coefficients_of (c.reciprocals.ensures ∙ ap reciprocals_of spectrum))
    ∙ inverse_found args.b size (sym (c.has_zero.ensures ∙ ap has_zero spectrum) ∙ c.if-has_zero.false)

use mathlib.Core.Path.{sym, ap, ◌∙◌}
use Rattle.gf128.specs.Bytes.{sum}
use Rattle.derivation.specs.Derivation.{keystream, under_keystream}
use Rattle.derivation.proofs.under_keystream.Goals as goal

pub returns : goal.returns
unfolding under_keystream
returns c =
    let made = c in
    let args = made.args in
    let text = args.text.now in
    c.add_to.ensures
    ∙ ap (sum text) (made.keystream.ensures ∙ ap (keystream args.k0) (sym made.requires))

use mathlib.Core.Path.{sym, ◌∙◌}
use Rattle.gf128_vectors.proofs.judge.Goals as goal

pub returns-then-not-has_sizes : goal.returns-then-not-has_sizes
returns-then-not-has_sizes c = rw (sym c.has_sizes.ensures ∙ c.if-not-has_sizes.true)

pub agrees-requires : goal.agrees-requires
agrees-requires c = sym c.has_sizes.ensures ∙ c.if-not-has_sizes.false

pub returns : goal.returns
returns c =
    let sound = c in
    c.judged.ensures ∙ rw (c.agrees.ensures, sym sound.has_sizes.ensures ∙ sound.if-not-has_sizes.false)

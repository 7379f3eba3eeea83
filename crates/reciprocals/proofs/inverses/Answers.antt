use mathlib.Core.Path.{◌≡◌, refl, sym, ap, ◌∙◌}
use Prim.Native.Nat.{ℕ}
use native.Mathlib.Omega.{arith}
use lib.ListN.{length}
use borrow.Author.Rules.{rules}
use Rattle.ntt.specs.Layers.{layers}
use Rattle.ntt.proofs.Factors.{shifted}
use Rattle.ntt.proofs.Layers.{layers-zero, layers_more}
use Rattle.reciprocals.specs.Tree.{inverted_top, inverses_of}
use Rattle.reciprocals.proofs.Trees.{level-small, Down, length_down}
use Rattle.reciprocals.proofs.inverses.Goals as goal

pub loop-k-init : goal.loop-k-init
unfolding inverted_top
loop-k-init c =
    let h = c.args.h.now in
    (search rules, refl, rw (layers-zero (Down h) (inverted_top h), c.reciprocal.ensures))

pub invert_level-requires : goal.invert_level-requires
invert_level-requires c =
    let at = c in
    let below = c.loop-k-test.true in
    (at.loop-k.invariant.1, rw (shifted at.loop-k.k below) (level-small at.loop-k.k below))

pub loop-k-preserved : goal.loop-k-preserved
loop-k-preserved c =
    let at = c in
    let h = at.args.h.now in
    let below = c.loop-k-test.true in
    let made = rw (shifted at.loop-k.k below) at c.invert_level.ensures in (
      search rules,
      ap length made ∙ length_down at.loop-k.k _ _ below at.loop-k.invariant.1,
      made ∙ ap (Down h at.loop-k.k) at.loop-k.invariant.2 ∙ sym (layers_more (Down h) at.loop-k.k _),
    )

pub returns : goal.returns
unfolding inverses_of
returns c =
    let h = c.args.h.now in
    let end : c.loop-k.k ≡ 10 = omega arith in
    c.loop-k.invariant.2 ∙ ap (λ (k : ℕ). layers (Down h) k (inverted_top h)) end

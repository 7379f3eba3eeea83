use mathlib.Core.Path.{◌≡◌, sym, ap, ◌∙◌}
use Prim.Native.Nat.{ℕ, ◌-◌, ◌<◌}
use native.Mathlib.Omega.{arith}
use lib.ListN.{length}
use borrow.Author.Rules.{rules}
use Rattle.ntt.specs.Layers.{layers}
use Rattle.ntt.proofs.Factors.{shifted}
use Rattle.ntt.proofs.Layers.{layers-zero, layers_more}
use Rattle.reciprocals.specs.Tree.{products_of}
use Rattle.reciprocals.proofs.Trees.{level-small, Up, length_up}
use Rattle.reciprocals.proofs.products.Goals as goal

pub loop-k-init : goal.loop-k-init
loop-k-init c = (search rules, c.requires, sym (layers-zero Up _))

pub multiply_level-requires : goal.multiply_level-requires
multiply_level-requires c =
    let at = c in
    let below : 9 - at.loop-k.k < 10 = omega arith in
    (at.loop-k.invariant.1, rw (shifted (9 - at.loop-k.k) below) (level-small (9 - at.loop-k.k) below))

pub loop-k-preserved : goal.loop-k-preserved
loop-k-preserved c =
    let at = c in
    let below : 9 - at.loop-k.k < 10 = omega arith in
    let made = rw (shifted (9 - at.loop-k.k) below) at c.multiply_level.ensures in (
      search rules,
      ap length made ∙ length_up at.loop-k.k _ at.loop-k.invariant.1,
      made ∙ ap (Up at.loop-k.k) at.loop-k.invariant.2 ∙ sym (layers_more Up at.loop-k.k _),
    )

pub returns : goal.returns
unfolding products_of
returns c =
    let end : c.loop-k.k ≡ 10 = omega arith in
    c.loop-k.invariant.2 ∙ ap (λ (k : ℕ). layers Up k c.args.h.now) end

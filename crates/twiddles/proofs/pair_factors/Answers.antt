use native.Mathlib.Omega.{arith}
use Rattle.lists.proofs.Parts.{length_part}
use Rattle.twiddles.proofs.Factors.{layer-part}
use mathlib.Core.Path.{sym, ap, ◌∙◌}
use Prim.Native.Nat.{◌+◌, ◌-◌, ◌*◌}
use lib.ListN.{length}
use Rattle.lists.proofs.Tables.{length-table}
use Rattle.lists.proofs.Fill.{filled_none, filled-part, filled-all}
use borrow.Author.Rules.{rules}
use Rattle.twiddles.proofs.pair_factors.Goals as goal

pub loop-k-init : goal.loop-k-init
loop-k-init c = filled_none _ _ (length-table 5120 _) c.requires.0

pub layer_factors-requires : goal.layer_factors-requires
layer_factors-requires c =
    let at = c in
    let start = 512 * at.loop-k.k in
    (length_part start (start + 512) at.loop-k.w (omega (arith, at.loop-k.invariant.size)) ∙ omega arith, at.requires.1, search rules)

pub loop-k-preserved : goal.loop-k-preserved
loop-k-preserved c =
    let made = c in
    let at = made in
    let k = at.loop-k.k in
    let ensures = made.layer_factors.ensures in
    filled-part made.layer_factors.new.w (512 * k + 512 - 512 * k) at.loop-k.invariant
    (ap length ensures ∙ length-table 512 _ ∙ omega arith) (omega arith) (omega arith) (ensures ∙ layer-part at.args.f.now k (search rules))

pub shape_of-w : goal.shape_of-w
shape_of-w c = c.loop-k.invariant.size ∙ sym c.requires.0

pub returns : goal.returns
returns c = filled-all c.loop-k.invariant (omega arith)

use mathlib.Core.Path.{◌≡◌, refl, sym, ap, ◌∙◌}
use mathlib.Core.List.{List}
use Prim.Native.Nat.{ℕ, ◌≤◌, ◌-◌, ◌/◌, ◌+◌, ◌*◌}
use native.Mathlib.Omega.{arith}
use lib.ListN.{length, take, drop}
use Rattle.lists.specs.Table.{table}
use Rattle.lists.proofs.Parts.{length_part}
use Rattle.string_to_state.specs.Words.{word}
use Rattle.string_to_state.proofs.Lanes.{words-zeros}
use Rattle.shake.specs.Sponge.{block}
use Rattle.shake.specs.Shake.{padded}
use Rattle.shake.proofs.Blocks.{start_fits, last_place, rest-fits, block_inside, block_end}
use Rattle.shake.proofs.Sponge.block_words.Goals as goal

-- block k lies within the message
fits : (r n k : ℕ) → k ≤ n / r → r ≤ n - r * k → r * k + r ≤ n
fits r n k h l = omega (arith, start_fits r n k h)

pub overflow_mul-at : goal.overflow_mul-at
overflow_mul-at g c = omega (arith, start_fits _ _ _ c.requires)

pub overflow_sub-input : goal.overflow_sub-input
overflow_sub-input g c = start_fits _ _ _ c.requires

pub overflow_add-at : goal.overflow_add-at
overflow_add-at g c = omega (arith, fits _ _ _ c.requires c.if-input-at.true)

pub slice_bounds-words-end : goal.slice_bounds-words-end
slice_bounds-words-end g c = fits _ _ _ c.requires c.if-input-at.true

pub words-requires : goal.words-requires
words-requires g c =
    let start = c in
    let r = g.row.RATE in
    let at = r * start.args.k in
    let size : at + r - at ≡ r = omega arith in
    rw (length_part at (at + r) start.args.input.now (fits _ _ _ c.requires c.if-input-at.true), size) start.args.self.is_rate.lanes

pub returns-then-input-at : goal.returns-then-input-at
returns-then-input-at g c =
    let start = c in
    let r = g.row.RATE in
    let m = start.args.input.now in
    let at = r * start.args.k in
    let size : at + r - at ≡ r = omega arith in
    let inside : take (at + r - at) (drop at m) ≡ block r start.args.k (padded r m) =
    rw size (sym (block_inside r start.args.self.is_rate.some m start.args.k (fits _ _ _ c.requires c.if-input-at.true))) in
    c.words.ensures ∙ ap (λ (b : List ℕ). table 25 (word b)) inside

pub slice_bounds-last_block-count : goal.slice_bounds-last_block-count
slice_bounds-last_block-count g c = start_fits _ _ _ c.requires

pub slice_bounds-last_block-start : goal.slice_bounds-last_block-start
slice_bounds-last_block-start g c = start_fits _ _ _ c.requires

pub last_block-b-requires : goal.last_block-b-requires
last_block-b-requires g c =
    let start = c in
    let r = g.row.RATE in
    let m = start.args.input.now in
    let last : start.args.k ≡ length m / r = last_place r (length m) start.args.k start.requires (omega (arith, c.if-input-at.false)) in
    let fit = rest-fits r (length m) start.args.self.is_rate.some in
    rw (last, length_part (r * (length m / r)) (length m) m (omega arith)) (omega (arith, fit.1, fit.2))

pub returns : goal.returns
returns g c =
    let made = c in
    let left = made in
    let start = left in
    let r = g.row.RATE in
    let m = start.args.input.now in
    let k = start.args.k in
    let last : k ≡ length m / r = last_place r (length m) k start.requires (omega (arith, left.if-input-at.false)) in
    c.words-2.ensures
    ∙ ap (λ (b : List ℕ). table 25 (word b)) (block_end r start.args.self.is_rate.some m k _ _ last refl made.last_block-b.ensures)
    ∙ words-zeros (block r k (padded r m)) (200 - r)

use mathlib.Core.Path.{◌≡◌, refl, ap, ◌∙◌}
use mathlib.Core.List.{List}
use Prim.Native.Nat.{ℕ, ◌<◌, ◌-◌, ◌/◌, ◌+◌, ◌*◌}
use native.Mathlib.Numerals.{add-one}
use native.Mathlib.Omega.{arith}
use lib.Bits.{bit_xor}
use lib.ListN.{length, get_or}
use Rattle.keccak_steps.specs.Steps.{State, lane, state}
use Rattle.keccak.specs.Keccak.{keccak_f}
use Rattle.string_to_state.proofs.Lanes.{xor-words_is}
use Rattle.shake.specs.Sponge.{block, absorbed, absorb_block}
use Rattle.shake.specs.Shake.{padded}
use Rattle.shake.proofs.Blocks.{blocks_few, absorb_all}
use borrow.Author.Rules.{rules}
use Rattle.shake.proofs.Sponge.absorb.Goals as goal

pub overflow_add-n : goal.overflow_add-n
overflow_add-n g c =
    let start = c in
    let two : 1 < g.row.RATE = omega (arith, start.args.self.is_rate.lanes, start.args.self.is_rate.some) in
    omega (arith, blocks_few g.row.RATE (length start.args.input.now) two)

pub loop-k-init : goal.loop-k-init
unfolding absorbed
loop-k-init g c = (search rules, refl)

pub block_words-w-requires : goal.block_words-w-requires
block_words-w-requires g c = omega (arith, c.loop-k-test.true)

pub overflow_step-k : goal.overflow_step-k
overflow_step-k g c =
    let start = c in
    let two : 1 < g.row.RATE = omega (arith, start.args.self.is_rate.lanes, start.args.self.is_rate.some) in
    omega (arith, c.loop-k-test.true, blocks_few g.row.RATE (length start.args.input.now) two)

pub loop-k-preserved : goal.loop-k-preserved
unfolding absorbed absorb_block
loop-k-preserved g c =
    let at-loop = c in
    let start = at-loop in
    let r = g.row.RATE in
    let s = at-loop.loop-k.s in
    let b = block r at-loop.loop-k.k (padded r start.args.input.now) in
    let turn : c.keccak_f-t.result ≡ absorb_block r s b =
    c.keccak_f-t.ensures
    ∙ ap keccak_f
    (c.xor_words.ensures
    ∙ ap (λ (w : List ℕ). state (λ x y. bit_xor (lane s x y) (get_or w (5 * y + x) 0))) c.block_words-w.ensures
    ∙ xor-words_is s b (200 - r)) in
    (search rules, rw add-one (turn ∙ ap (λ (s : State). absorb_block r s b) at-loop.loop-k.invariant.1))

pub returns : goal.returns
returns g c =
    let start = c in
    let m = start.args.input.now in
    let e : c.loop-k.k ≡ length m / g.row.RATE + 1 = omega arith in
    rw e at c.loop-k.invariant.1 ∙ absorb_all g.row.RATE start.args.self.is_rate.some m

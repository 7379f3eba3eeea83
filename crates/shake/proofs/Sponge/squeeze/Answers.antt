use mathlib.Core.Path.{◌≡◌, refl, sym, ap, ◌∙◌}
use Prim.Native.Nat.{ℕ, ◌<◌, ◌≤◌, ◌-◌, ◌/◌, ◌+◌, ◌*◌}
use native.Mathlib.Nat.{div-le_self, mul-zero, mul-suc}
use native.Mathlib.Omega.{arith}
use native.Mathlib.Numerals.{add-one}
use lib.ListN.{length}
use Rattle.lists.proofs.Tables.{length-table}
use Rattle.lists.proofs.Parts.{length_part}
use Rattle.lists.proofs.Fill.{filled_none, filled-all}
use Rattle.keccak.specs.Keccak.{keccak_f}
use Rattle.shake.specs.Sponge.{permuted}
use Rattle.shake.proofs.Blocks.{block-fits, rest-fits}
use Rattle.shake.proofs.Output.{squeeze-table, squeeze_none, squeeze-part}
use borrow.Author.Rules.{rules}
use Rattle.shake.proofs.Sponge.squeeze.Goals as goal

-- what is left behind the blocks of the loop is one block at most
left : (r d : ℕ) → 0 < r → 0 < d → (r * ((d - 1) / r) ≤ d) × (d ≤ r * ((d - 1) / r) + r)
left r d h p =
    let fit = rest-fits r (d - 1) h in
    (omega (arith, fit.0), omega (arith, fit.1, fit.2))

pub returns-then-out-eq0 : goal.returns-then-out-eq0
returns-then-out-eq0 g c = squeeze_none _ _ _ c.if-out-eq0.true

pub loop-k-init : goal.loop-k-init
unfolding permuted
loop-k-init g c = (search rules, refl, rw mul-zero (filled_none _ _ (length-table _ _) refl))

pub overflow_mul-at : goal.overflow_mul-at
overflow_mul-at g c = omega (arith, block-fits _ _ _ c.loop-k-test.true)

pub overflow_add-at : goal.overflow_add-at
overflow_add-at g c = omega (arith, block-fits _ _ _ c.loop-k-test.true)

pub slice_bounds-put_bytes-end : goal.slice_bounds-put_bytes-end
slice_bounds-put_bytes-end g c = omega (arith, block-fits _ _ _ c.loop-k-test.true, c.loop-k.invariant.2.size)

pub put_bytes-requires : goal.put_bytes-requires
put_bytes-requires g c =
    let at-loop = c in
    let start = at-loop in
    let at = g.row.RATE * at-loop.loop-k.k in
    rw (length_part at (at + g.row.RATE) at-loop.loop-k.out (omega (arith, block-fits _ _ _ c.loop-k-test.true, c.loop-k.invariant.2.size))) (omega (arith, start.args.self.is_rate.most))

pub overflow_step-k : goal.overflow_step-k
overflow_step-k g c =
    let args = c.args in
    omega (arith, div-le_self (length args.out.now - 1) g.row.RATE)

pub loop-k-preserved : goal.loop-k-preserved
unfolding permuted
loop-k-preserved g c =
    let at-loop = c in
    let start = at-loop in
    let r = g.row.RATE in
    let k = at-loop.loop-k.k in
    let next : r * k + r ≡ r * (k + 1) = rw (add-one, mul-suc) in (
      search rules,
      rw add-one (c.keccak_f-next.ensures ∙ ap keccak_f at-loop.loop-k.invariant.1),
      rw (← next)
          (squeeze-part r start.args.self.is_rate start.args.s _ k (r * k + r) _ _ at-loop.loop-k.invariant.2 (omega arith) (omega (arith, block-fits _ _ _ c.loop-k-test.true)) (omega arith)
          (rw at-loop.loop-k.invariant.1 at c.put_bytes.ensures)),
    )

pub overflow_mul-at-2 : goal.overflow_mul-at-2
overflow_mul-at-2 g c = omega (arith, (left g.row.RATE (length c.args.out.now) c.args.self.is_rate.some (omega arith)).0)

pub slice_bounds-put_bytes-count-2 : goal.slice_bounds-put_bytes-count-2
slice_bounds-put_bytes-count-2 g c = omega (arith, (left g.row.RATE (length c.args.out.now) c.args.self.is_rate.some (omega arith)).0, c.loop-k.invariant.2.size)

pub slice_bounds-put_bytes-start-2 : goal.slice_bounds-put_bytes-start-2
slice_bounds-put_bytes-start-2 g c = omega (arith, (left g.row.RATE (length c.args.out.now) c.args.self.is_rate.some (omega arith)).0, c.loop-k.invariant.2.size)

pub put_bytes-requires-2 : goal.put_bytes-requires-2
put_bytes-requires-2 g c =
    let at-loop = c in
    let start = at-loop in
    let at = g.row.RATE * ((length start.args.out.now - 1) / g.row.RATE) in
    rw (length_part at (length at-loop.loop-k.out) at-loop.loop-k.out (omega arith)) (omega (arith, (left g.row.RATE (length c.args.out.now) c.args.self.is_rate.some (omega arith)).1, c.loop-k.invariant.2.size, start.args.self.is_rate.most))

pub returns : goal.returns
returns g c =
    let r = g.row.RATE in
    let d = length c.args.out.now in
    let e : c.loop-k.k ≡ (d - 1) / r = omega arith in
    let inv = c.loop-k.invariant in
    let fit = left r d c.args.self.is_rate.some (omega arith) in
    let last =
    squeeze-part r c.args.self.is_rate c.args.s d _ _ _ _ (rw e at inv.2) (omega (arith, fit.0, inv.2.size)) (omega (arith, inv.2.size)) (omega (arith, fit.1, inv.2.size))
    (rw (inv.1, e) at c.put_bytes-2.ensures) in
    filled-all last (omega (arith, inv.2.size)) ∙ sym (squeeze-table r c.args.self.is_rate c.args.s _)

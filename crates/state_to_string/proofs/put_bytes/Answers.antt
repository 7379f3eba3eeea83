use mathlib.Core.Path.{◌≡◌, refl, sym, ap, ◌∙◌}
use mathlib.Core.List.{[]}
use Prim.Native.Nat.{ℕ, ◌+◌, ◌*◌, ◌/◌, ◌%◌, ◌-◌, ◌≤◌}
use native.Mathlib.Omega.{arith}
use lib.ListN.{length, get_or}
use Rattle.lists.specs.Table.{table}
use Rattle.lists.proofs.Parts.{length_part}
use Rattle.lists.proofs.Tables.{length-table}
use Rattle.lists.proofs.Fill.{filled_none, filled-part, filled-all}
use Rattle.state_to_string.specs.Bytes.{lane_byte}
use Rattle.state_to_string.proofs.LaneBytes.{lane_bytes_lem, take-bytes, put_rest}
use Rattle.state_to_string.proofs.put_bytes.Goals as goal

pub loop-k-init : goal.loop-k-init
loop-k-init c = filled_none _ _ (length-table _ _) refl

pub loop-k-preserved : goal.loop-k-preserved
loop-k-preserved c =
    let at-loop = c in
    let k = at-loop.loop-k.k in
    let size : 8 * k + 8 - 8 * k ≡ 8 = omega arith in
    let lane-is = lane_byte (get_or (get_or at-loop.args.s (k / 5) []) (k % 5) 0) in
    let within : 8 * k + 8 ≤ length at-loop.loop-k.out = omega (arith, at-loop.loop-k.invariant.size) in
    let part = c.put_lane.ensures ∙ ap (λ (n : ℕ). table n lane-is) (length_part (8 * k) (8 * k + 8) at-loop.loop-k.out within ∙ size) in
    filled-part _ _ at-loop.loop-k.invariant (ap length part ∙ length-table 8 lane-is ∙ sym size) (omega arith) (omega arith)
    (part ∙ rw size (lane_bytes_lem at-loop.args.s k 8 _ (omega arith) (omega arith)))

pub returns-then-at-out : goal.returns-then-at-out
returns-then-at-out c =
    let at-loop = c in
    let n = length at-loop.args.out.now / 8 in
    let e : at-loop.loop-k.k ≡ n = omega arith in
    put_rest _ _ n _ _ (rw e at at-loop.loop-k.invariant) (omega arith) (omega arith) c.put_lane-then-at-out.ensures

pub returns-else-at-out : goal.returns-else-at-out
returns-else-at-out c =
    let at-loop = c in
    filled-all at-loop.loop-k.invariant (omega arith) ∙ take-bytes _ _ (omega arith)

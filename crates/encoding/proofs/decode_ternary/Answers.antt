use mathlib.Core.Path.{refl, ap, ◌∙◌}
use Prim.Native.Nat.{◌<◌}
use native.Mathlib.Omega.{arith}
use lib.ListN.{get_or}
use Rattle.ring.specs.Ring.{q, n}
use Rattle.encoding.specs.Codes.{code_at, coefficient_of, unpacked}
use Rattle.lists.proofs.TableFill.{zero-filled-start, zero-filled-table}
use Rattle.encoding.proofs.Digits.{digit_missing}
use Rattle.encoding.proofs.Codes.{coefficient_none, four_more}
use Rattle.encoding.proofs.decode_ternary.Goals as goal

pub loop-i-init : goal.loop-i-init
loop-i-init c = zero-filled-start n _ _ _ (omega arith) refl

pub loop-i-preserved : goal.loop-i-preserved
loop-i-preserved c =
    let at = c in
    let bytes = at.args.bytes.now in
    let b : get_or bytes at.loop-i.i 0 < 256 = omega (arith, c.shared_slice_known-in-loop-i-1.given at.loop-i.i) in
    four_more q _ at.loop-i.i bytes at.loop-i.invariant c.loop-i-test.true b
    c.coefficient-c0.ensures c.coefficient-c1.ensures c.coefficient-c2.ensures c.coefficient-c3.ensures

pub returns : goal.returns
unfolding unpacked
returns c =
    let bytes = c.args.bytes.now in
    zero-filled-table (λ k. coefficient_of q (code_at bytes k)) c.loop-i.invariant (omega arith) (omega arith)
    (λ k l h. ap (coefficient_of q) (digit_missing 4 4 bytes k (omega arith)) ∙ coefficient_none q)

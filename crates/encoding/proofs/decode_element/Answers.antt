use mathlib.Core.Path.{refl, sym, ◌∙◌}
use Prim.Native.Nat.{◌/◌, ◌<◌}
use native.Mathlib.Omega.{arith}
use lib.ListN.{length, get_or}
use Rattle.ring.specs.Ring.{n}
use Rattle.encoding.specs.Words.{words, words_to}
use Rattle.lists.proofs.TableFill.{zero-filled-start, zero-filled-next, zero-filled-table}
use Rattle.encoding.proofs.Words.{words_entry, words_missing}
use Rattle.encoding.proofs.decode_element.Goals as goal

pub loop-k-init : goal.loop-k-init
loop-k-init c = zero-filled-start n _ _ _ (omega arith) refl

pub loop-k-preserved : goal.loop-k-preserved
loop-k-preserved c =
    let at = c in
    let bytes = at.args.bytes.now in
    let h : at.loop-k.k < length bytes / 2 = omega arith in
    zero-filled-next (λ k. get_or (words bytes) k 0) at.loop-k.invariant c.loop-k-test.true
    (c.word.ensures ∙ sym (words_entry bytes at.loop-k.k h)) refl

pub returns : goal.returns
unfolding words_to
returns c =
    let bytes = c.args.bytes.now in
    zero-filled-table (λ k. get_or (words bytes) k 0) c.loop-k.invariant c.loop-k-test.false (omega arith)
    (λ k l h. words_missing bytes k (omega arith))

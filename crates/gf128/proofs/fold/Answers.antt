use mathlib.Core.Path.{◌≡◌, sym, ap, ap₂, ◌∙◌}
use mathlib.Core.List.{List, ◌++◌}
use Prim.Native.Nat.{ℕ, ◌+◌, ◌*◌, ◌^◌, ◌≤◌, ◌<◌}
use native.Mathlib.Omega.{arith}
use lib.Bits.{bit_xor}
use lib.ListN.{length, take, drop, length-append, length-drop}
use lib.Seq.{take_at, drop_at, drop-drop}
use Rattle.std.specs.Slice.Iter.{chunks_exact_rest}
use Rattle.std.proofs.lemmas.List.{length_push}
use Rattle.gf128.specs.Field.{times}
use Rattle.gf128.specs.Bytes.{number, bytes, block}
use Rattle.gf128.specs.Words.{value}
use Rattle.gf128.proofs.Digits.{number-bytes}
use Rattle.gf128.proofs.TagLaws.{folded_none, number-folded}
use Rattle.gf128.proofs.TwoWords.{two-words-lt}
use Rattle.gf128.proofs.FieldLaws.{bytes-block}
use borrow.Author.Rules.{rules}
use Rattle.gf128.proofs.fold.Goals as goal

pub loop-block-init : goal.loop-block-init
loop-block-init c =
    let args = c.args in
    let start = args.start in
    let hi : start.hi < 2 ^ 64 = omega arith in
    let lo : start.lo < 2 ^ 64 = omega arith in (
      search rules,
      search rules,
      search rules,
      sym (ap number (folded_none (bytes 16 (value args.k)) (bytes 16 (value start)) args.blocks.now) ∙ number-bytes 16 (value start) (two-words-lt start.hi start.lo hi lo)),
    )

-- what stands behind block n of a string, where the whole from that block on is b and a rest
next_block : (n : ℕ) (s b rest : List ℕ) → drop (16 * n) s ≡ b ++ rest → length b ≡ 16
    → (b ≡ block n s) × (rest ≡ drop (16 * (n + 1)) s) × (16 * n + 16 ≤ length s)
next_block n s b rest e size =
    let at : 16 * n + 16 ≡ 16 * (n + 1) = omega arith in (
      sym (ap (take 16) e ∙ take_at b rest 16 size),
      sym (drop_at b rest 16 size) ∙ ap (drop 16) (sym e) ∙ drop-drop 16 (16 * n) s ∙ ap (λ (i : ℕ). drop i s) at,
      omega (arith, length-drop (16 * n) s, ap length e, length-append b rest, size),
    )

pub loop-block-preserved : goal.loop-block-preserved
loop-block-preserved c =
    let k = c.args.k in
    let start = c.args.start in
    let blocks = c.args.blocks.now in
    let b = c.in-Some.block in
    let n = length c.loop-block.yielded in
    let before = c.loop-block.invariant in
    let steps = c.in-Some.ensures.steps in
    let hi : k.hi < 2 ^ 64 = omega arith in
    let lo : k.lo < 2 ^ 64 = omega arith in
    let next = next_block n blocks b.now (chunks_exact_rest c.next.new.self) (sym before.1 ∙ steps.1.0) (steps.1.1 ∙ before.0) in
    rw (length_push c.loop-block.yielded b) (
      steps.0 ∙ before.0,
      next.1,
      omega (arith, next.2),
      c.mul-r.ensures
          ∙ ap (times (value k)) (c.add-added.ensures ∙ ap₂ bit_xor before.3 (c.load.ensures ∙ ap number next.0))
          ∙ number-folded (value k) n blocks (two-words-lt k.hi k.lo hi lo) (bytes-block (value start)) (λ j. omega (arith, c.shared_slice_known-1.given j)) next.2,
    )

use mathlib.Core.Path.{◌≡◌, refl, sym, ap, ap₂, ◌∙◌}
use mathlib.Core.List.{List}
use Prim.Native.Nat.{ℕ, ◌/◌}
use native.Mathlib.Omega.{arith}
use lib.Bits.{bit_xor}
use lib.ListN.{length, get_or}
use mir.Syntax.{w8}
use mir.Val.{Fits}
use borrow.Author.Rules.{rules}
use Rattle.lists.specs.Table.{zeros}
use Rattle.gf128.specs.Bytes.{Block, number, bytes, folded}
use Rattle.gf128.proofs.FieldLaws.{bytes-sum, bytes_of-block, zeros-block}
use Rattle.gf128.proofs.TagLaws.{folded-block, tag_behind}
use Rattle.gf128.proofs.tag.Goals as goal

no_bytes : bytes 16 0 ≡ zeros 16
unfolding bytes
no_bytes = refl

pub returns : goal.returns
returns c =
    let k1 = c.args.k1 in
    let k2 = c.args.k2 in
    let s = c.args.front.now in
    let rest = c.args.blocks.now in
    let b1 : Block k1 = record { size = omega arith; small = λ j. let byte : Fits w8 (get_or k1 j 0) = search rules in byte.fits } in
    let b2 : Block k2 = record { size = omega arith; small = λ j. let byte : Fits w8 (get_or k2 j 0) = search rules in byte.fits } in
    let key = ap (bytes 16) c.load-k.ensures ∙ bytes_of-block b1 in
    let start = folded-block k1 (length s / 16) s zeros-block in
    let from_front = ap (bytes 16) (c.fold-start.ensures ∙ ap₂ (λ (k x : List ℕ). number (folded k x (length s / 16) s)) key no_bytes) ∙ bytes_of-block start in
    c.store.ensures
    ∙ ap (bytes 16)
    (c.add.ensures
    ∙ ap₂ bit_xor
    (c.fold-folded.ensures ∙ ap₂ (λ (k x : List ℕ). number (folded k x (length rest / 16) rest)) key from_front)
    c.load.ensures)
    ∙ bytes-sum (folded-block k1 (length rest / 16) rest start) b2
    ∙ sym (tag_behind k1 s rest k2 (search rules))

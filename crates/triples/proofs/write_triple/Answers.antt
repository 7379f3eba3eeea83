use mathlib.Core.List.{[]}
use mathlib.Core.Path.{◌≡◌, refl, sym, ◌∙◌}
use mathlib.Core.List.{◌++◌}
use native.Mathlib.Omega.{arith}
use lib.ListN.{length, length-append}
use Rattle.encoding.specs.Codes.{ternary_bytes}
use Rattle.encoding.proofs.Codes.{length-ternary_bytes}
use Rattle.encoding.proofs.Buffers.{put_front_lem, put_short}
use Rattle.triples.specs.Triple.{triple_bytes}
use Rattle.triples.proofs.Triples.{length-triple_bytes}
use Rattle.encoding.proofs.Buffers.{put-part}
use Rattle.triples.proofs.write_triple.Goals as goal

pub returns-then-out-ge-TRIPLE_LENGTH : goal.returns-then-out-ge-TRIPLE_LENGTH
unfolding triple_bytes
returns-then-out-ge-TRIPLE_LENGTH c =
    let start = c in
    let old = start.args.out.now in
    let a = ternary_bytes start.args.t.r in
    let b = ternary_bytes start.args.t.e1 in
    let first =
    put-part [] a old old 0 256 refl refl (length-ternary_bytes _) refl (omega arith)
    c.encode_ternary.ensures in
    let second =
    put-part a b old _ 256 256 first (length-ternary_bytes _) (length-ternary_bytes _) refl (omega arith)
    c.encode_ternary-then-out-ge-TRIPLE_LENGTH.ensures in
    let front : length (a ++ b) ≡ 512 = omega (arith, length-append a b, length-ternary_bytes start.args.t.r, length-ternary_bytes start.args.t.e1) in
    put-part (a ++ b) (ternary_bytes start.args.t.e2) old _ 512 256 second front (length-ternary_bytes _) refl (omega arith)
    c.encode_ternary-then-out-ge-TRIPLE_LENGTH-2.ensures
    ∙ put_front_lem _ old (length-triple_bytes _ _ _) (omega arith) refl

pub returns-else-out-ge-TRIPLE_LENGTH : goal.returns-else-out-ge-TRIPLE_LENGTH
returns-else-out-ge-TRIPLE_LENGTH c = sym (put_short _ _ (rw length-triple_bytes c.if-out-ge-TRIPLE_LENGTH.false))

use mathlib.Core.Path.{◌≡◌, refl, ◌∙◌}
use mathlib.Core.List.{List, ◌++◌}
use Prim.Native.Nat.{ℕ}
use native.Mathlib.Omega.{arith}
use lib.ListN.{length, take}
use Rattle.encoding.specs.Words.{element_bytes}
use Rattle.encoding.proofs.Words.{length-element_bytes}
use Rattle.encoding.specs.Buffers.{put_front}
use Rattle.encoding.proofs.Buffers.{put_first, put-part, put_all}
use Rattle.records.specs.Records.{encapsulation_bytes}
use Rattle.records.proofs.Writing.{argument_is}
use Rattle.sealed_records.proofs.write_encapsulation.Goals as goal

pub returns : goal.returns
unfolding encapsulation_bytes
returns c =
    let start = c in
    let old = start.args.out.now in
    let c1 = element_bytes start.args.c.c1 in
    let c2 = element_bytes start.args.c.c2 in
    let size : length old ≡ 4096 = start.requires in
    let first =
    argument_is (λ (x : List ℕ). put_front (element_bytes x) (take 2048 old)) _ start.args.c.c1
    c.encode_element.ensures refl in
    put-part c1 c2 old _ 2048 2048 (put_first c1 old 2048 (length-element_bytes start.args.c.c1) (omega arith) first)
    (length-element_bytes start.args.c.c1) (length-element_bytes start.args.c.c2) refl (omega arith) c.encode_element-2.ensures
    ∙ put_all (c1 ++ c2) old 4096 (omega arith)

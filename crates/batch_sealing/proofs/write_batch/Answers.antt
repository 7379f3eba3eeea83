use mathlib.Core.Path.{◌≡◌, ap, ◌∙◌}
use mathlib.Core.List.{List, ◌++◌}
use Prim.Native.Nat.{ℕ, ◌+◌, ◌-◌}
use native.Mathlib.Omega.{arith}
use lib.ListN.{length, take, drop, length-append}
use Rattle.scheme.specs.Answers.{triple_of}
use Rattle.encoding.proofs.Buffers.{put-plain, put_all}
use Rattle.derivation.specs.Derivation.{body_of, tag_of}
use Rattle.derivation.proofs.Laws.{length-body_of}
use Rattle.records.specs.Layout.{sealed_entry_mark}
use Rattle.records.specs.Records.{record_bytes}
use Rattle.records.proofs.Writing.{length-record_bytes}
use Rattle.batch_records.specs.Batches.{count_bytes, count_block, batch_bytes}
use Rattle.batch_calls.specs.Calls.{entries}
use Rattle.batch_sealing.proofs.write_batch.Goals as goal

pub returns : goal.returns
unfolding batch_bytes count_block
returns c =
    let args = c.args in
    let old = args.out.now in
    let blocks = args.blocks.now in
    let size = length blocks in
    let t = triple_of args.p.triple in
    let front = record_bytes sealed_entry_mark 2 args.p.c.c1 args.p.c.c2 ++ count_bytes (entries blocks) in
    let body = body_of t.r t.e1 t.e2 blocks in
    let l = c.count_block-l.ensures in
    let shown = c.protect-tag.ensures.body_after in
    let tagged = c.protect-tag.ensures.value in
    let length_front : length front ≡ 4103 = omega (arith, length-append (record_bytes sealed_entry_mark 2 args.p.c.c1 args.p.c.c2) (count_bytes (entries blocks)), length-record_bytes sealed_entry_mark 2 args.p.c.c1 args.p.c.c2) in
    let one = c.write_front.ensures ∙ ap (λ (x : List ℕ). (record_bytes sealed_entry_mark 2 args.p.c.c1 args.p.c.c2 ++ take 2 x) ++ drop 4103 old) l in
    let two = put-plain front body old _ 4103 (4103 + size - 4103) {e = 4103 + size} one length_front (omega arith) shown in
    put-plain (front ++ body) _ old _ (4103 + size) (4119 + size - (4103 + size)) {e = 4119 + size} two (omega (arith, length-append front body, length-body_of t.r t.e1 t.e2 blocks)) (omega arith)
    (c.write_block.ensures ∙ tagged ∙ ap (λ (x : List ℕ). tag_of t.r t.e1 t.e2 (x ++ body)) l)
    ∙ put_all _ old (4119 + size) (omega (arith, c.requires.1))

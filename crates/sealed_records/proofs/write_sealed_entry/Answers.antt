use mathlib.Core.Path.{◌≡◌, refl, ◌∙◌}
use mathlib.Core.List.{◌++◌}
use native.Mathlib.Omega.{arith}
use lib.ListN.{length, length-append}
use Rattle.encoding.proofs.Buffers.{put-plain, put_all}
use Rattle.records.specs.Layout.{sealed_entry_mark, sealed_entry_length, block_length, third_place, tag_place}
use Rattle.records.specs.Records.{record_bytes}
use Rattle.records.proofs.Writing.{length-record_bytes}
use borrow.Author.Rules.{rules}
use Rattle.sealed_records.proofs.write_sealed_entry.Goals as goal

pub returns : goal.returns
returns c =
    let start = c in
    let args = start.args in
    let old = args.out.now in
    let front = record_bytes sealed_entry_mark 1 args.c.c1 args.c.c2 in
    let size : length old ≡ sealed_entry_length = start.requires in
    let body : length args.body ≡ block_length = search rules in
    let sf : length front ≡ third_place = length-record_bytes sealed_entry_mark 1 args.c.c1 args.c.c2 in
    let sb : length (front ++ args.body) ≡ tag_place = omega (arith, length-append front args.body) in
    let first = c.write_record.ensures in
    let second = put-plain front args.body old _ third_place block_length first sf refl c.write_block.ensures in
    put-plain (front ++ args.body) args.tag old _ tag_place block_length second sb refl c.write_block-2.ensures
    ∙ put_all (front ++ args.body ++ args.tag) old sealed_entry_length (omega arith)

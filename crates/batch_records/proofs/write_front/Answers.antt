use mathlib.Core.Path.{refl}
use lib.ListN.{take}
use Rattle.encoding.proofs.Buffers.{put-plain}
use Rattle.records.specs.Layout.{sealed_entry_mark, third_place}
use Rattle.records.specs.Records.{record_bytes}
use Rattle.records.proofs.Writing.{length-record_bytes}
use Rattle.batch_records.proofs.write_front.Goals as goal

pub returns : goal.returns
returns c =
    let args = c.args in
    let front = record_bytes sealed_entry_mark 2 args.c.c1 args.c.c2 in
    put-plain front (take 2 args.l) args.out.now _ third_place 2 c.write_record.ensures
    (length-record_bytes sealed_entry_mark 2 args.c.c1 args.c.c2) refl c.copy.ensures

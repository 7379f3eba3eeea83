use mathlib.Core.Path.{◌≡◌, ◌∙◌}
use native.Mathlib.Omega.{arith}
use lib.ListN.{length}
use Rattle.encoding.proofs.Buffers.{put_all}
use Rattle.records.specs.Layout.{public_key_length}
use Rattle.records.specs.Records.{public_key_bytes}
use Rattle.records.proofs.write_public_key.Goals as goal

pub returns : goal.returns
returns c =
    let start = c in
    let args = start.args in
    let size : length args.out.now ≡ public_key_length = start.requires in
    c.write_record.ensures ∙ put_all (public_key_bytes args.a args.b) args.out.now public_key_length (omega arith)

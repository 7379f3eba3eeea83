use mathlib.Core.Path.{◌≡◌, refl, ◌∙◌}
use mathlib.Core.List.{◌++◌}
use native.Mathlib.Omega.{arith}
use lib.ListN.{length, length-append}
use Rattle.encoding.specs.Header.{header}
use Rattle.encoding.proofs.Headers.{length_header_lem}
use Rattle.encoding.proofs.Buffers.{put_first, put-plain, put_all}
use Rattle.records.specs.Layout.{secret_key_mark, secret_key_version, secret_key_length, key_body_length}
use Rattle.records.specs.Records.{key_body, compact_bytes}
use Rattle.records.proofs.WrittenRecords.{part_length}
use Rattle.key_conversion.proofs.write_compact.Goals as goal

pub returns : goal.returns
unfolding compact_bytes
returns c =
    let start = c in
    let args = start.args in
    let old = args.out.now in
    let k = args.key.now in
    let h = header secret_key_mark secret_key_version in
    let body = key_body k in
    let room : length old ≡ secret_key_length = start.requires.1 in
    let sh : length h ≡ 5 = length_header_lem secret_key_mark secret_key_version in
    let sk : length body ≡ key_body_length = part_length 5 4352 k (omega (arith, start.requires.0)) in
    let front = put_first h old 5 sh (omega arith) c.encode_header.ensures in
    put-plain h body old _ 5 4352 front sh refl c.copy.ensures
    ∙ put_all (h ++ body) old secret_key_length (omega (arith, length-append h body))

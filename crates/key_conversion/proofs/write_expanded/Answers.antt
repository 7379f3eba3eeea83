use mathlib.Core.Path.{◌≡◌, refl, ◌∙◌}
use mathlib.Core.List.{◌++◌}
use native.Mathlib.Omega.{arith}
use lib.ListN.{length, length-append}
use Rattle.encoding.specs.Header.{header}
use Rattle.encoding.specs.Words.{element_bytes}
use Rattle.encoding.proofs.Words.{length-element_bytes}
use Rattle.encoding.proofs.Headers.{length_header_lem}
use Rattle.encoding.proofs.Buffers.{put_first, put-plain, put-part, put_all}
use Rattle.records.specs.Layout.{secret_key_mark, expanded_key_version, expanded_key_length, key_body_length}
use Rattle.records.specs.Records.{key_body, expanded_bytes}
use Rattle.records.proofs.WrittenRecords.{part_length}
use Rattle.key_conversion.proofs.write_expanded.Goals as goal

pub returns : goal.returns
unfolding expanded_bytes
returns c =
    let start = c in
    let args = start.args in
    let old = args.out.now in
    let k = args.key.now in
    let h = header secret_key_mark expanded_key_version in
    let body = key_body k in
    let i = element_bytes args.inverse in
    let room : length old ≡ expanded_key_length = start.requires.1 in
    let sh : length h ≡ 5 = length_header_lem secret_key_mark expanded_key_version in
    let sk : length body ≡ key_body_length = part_length 5 4352 k (omega (arith, start.requires.0)) in
    let si : length i ≡ 2048 = length-element_bytes args.inverse in
    let shk : length (h ++ body) ≡ 4357 = omega (arith, length-append h body) in
    let front = put_first h old 5 sh (omega arith) c.encode_header.ensures in
    let middle = put-plain h body old _ 5 4352 front sh refl c.copy.ensures in
    put-part (h ++ body) i old _ 4357 2048 middle shk si refl (omega arith) c.encode_element.ensures
    ∙ put_all (h ++ body ++ i) old expanded_key_length (omega arith)

use mathlib.Core.Path.{◌≡◌, refl}
use mathlib.Core.List.{◌++◌}
use native.Mathlib.Omega.{arith}
use Prim.Native.Nat.{◌≤◌}
use lib.ListN.{length, length-append}
use Rattle.encoding.specs.Header.{header}
use Rattle.encoding.specs.Words.{element_bytes}
use Rattle.encoding.proofs.Words.{length-element_bytes}
use Rattle.encoding.proofs.Headers.{length_header_lem}
use Rattle.records.specs.Layout.{third_place}
use Rattle.records.specs.Records.{record_bytes}
use Rattle.encoding.proofs.Buffers.{put_first, put-part}
use Rattle.records.proofs.write_record.Goals as goal

pub returns : goal.returns
unfolding record_bytes
returns c =
    let start = c in
    let args = start.args in
    let old = args.out.now in
    let h = header args.mark args.version in
    let x = element_bytes args.first in
    let y = element_bytes args.second in
    let room : third_place ≤ length old = start.requires in
    let sh : length h ≡ 5 = length_header_lem args.mark args.version in
    let sx : length x ≡ 2048 = length-element_bytes args.first in
    let sy : length y ≡ 2048 = length-element_bytes args.second in
    let shx : length (h ++ x) ≡ 2053 = omega (arith, length-append h x) in
    let front = put_first h old 5 sh (omega arith) c.encode_header.ensures in
    let middle = put-part h x old _ 5 2048 front sh sx refl (omega arith) c.encode_element.ensures in
    put-part (h ++ x) y old _ 2053 2048 middle shx sy refl (omega arith) c.encode_element-2.ensures

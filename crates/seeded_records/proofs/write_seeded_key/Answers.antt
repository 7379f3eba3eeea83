use mathlib.Core.Path.{◌≡◌, refl, ◌∙◌}
use mathlib.Core.List.{◌++◌}
use native.Mathlib.Omega.{arith}
use lib.ListN.{length, length-append}
use Rattle.encoding.specs.Header.{header}
use Rattle.encoding.specs.Words.{element_bytes}
use Rattle.encoding.proofs.Words.{length-element_bytes}
use Rattle.encoding.proofs.Headers.{length_header_lem}
use Rattle.encoding.proofs.Buffers.{put_first, put-plain, put-part, put_all}
use Rattle.records.specs.Layout.{seeded_key_mark, seed_length, seeded_key_length}
use Rattle.records.specs.Records.{seeded_key_bytes}
use Rattle.seeded_records.proofs.write_seeded_key.Goals as goal

pub returns : goal.returns
unfolding seeded_key_bytes
returns c =
    let start = c in
    let args = start.args in
    let old = args.out.now in
    let seed = args.seed.now in
    let h = header seeded_key_mark 1 in
    let b = element_bytes args.b in
    let room : length old ≡ seeded_key_length = start.requires.1 in
    let sh : length h ≡ 5 = length_header_lem seeded_key_mark 1 in
    let ss : length seed ≡ seed_length = start.requires.0 in
    let sb : length b ≡ 2048 = length-element_bytes args.b in
    let shs : length (h ++ seed) ≡ 37 = omega (arith, length-append h seed) in
    let front = put_first h old 5 sh (omega arith) c.encode_header.ensures in
    let middle = put-plain h seed old _ 5 32 front sh refl c.copy.ensures in
    put-part (h ++ seed) b old _ 37 2048 middle shs sb refl (omega arith) c.encode_element.ensures
    ∙ put_all (h ++ seed ++ b) old seeded_key_length (omega arith)

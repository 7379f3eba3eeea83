use mathlib.Core.Path.{◌≡◌, refl, ◌∙◌}
use mathlib.Core.List.{List, ◌++◌}
use Prim.Native.Nat.{ℕ}
use native.Mathlib.Omega.{arith}
use lib.ListN.{length, drop}
use Rattle.encoding.specs.Codes.{ternary_bytes}
use Rattle.encoding.proofs.Codes.{length-ternary_bytes}
use Rattle.encoding.proofs.Buffers.{put-part, put_all}
use Rattle.records.specs.Layout.{secret_key_mark, secret_key_length, third_place, ternary_length}
use Rattle.records.specs.Records.{record_bytes}
use Rattle.records.proofs.Writing.{length-record_bytes, argument_is}
use Rattle.records.proofs.write_secret_key.Goals as goal

pub returns : goal.returns
returns c =
    let start = c in
    let args = start.args in
    let old = args.out.now in
    let front = record_bytes secret_key_mark 1 args.a args.b in
    let s = ternary_bytes args.s in
    let size : length old ≡ secret_key_length = start.requires in
    let first =
    argument_is (λ (mark : List ℕ). record_bytes mark 1 args.a args.b ++ drop third_place old) _ secret_key_mark
    c.write_record.ensures refl in
    put-part front s old _ third_place ternary_length first
    (length-record_bytes secret_key_mark 1 args.a args.b) (length-ternary_bytes args.s) refl (omega arith) c.encode_ternary.ensures
    ∙ put_all (front ++ s) old secret_key_length (omega arith)

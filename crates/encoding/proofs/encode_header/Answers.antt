use mathlib.Core.Path.{sym, ap₂, ◌∙◌}
use mathlib.Core.List.{List, ◌++◌}
use Prim.Native.Nat.{ℕ}
use lib.ListN.{drop}
use borrow.Rule.Slice.PartMut.{put_mid}
use borrow.Author.Rules.{rules}
use Rattle.encoding.proofs.Headers.{length_header_lem, header_stored}
use Rattle.encoding.proofs.Buffers.{put_short}
use Rattle.encoding.proofs.encode_header.Goals as goal

pub returns-then-out-ge-HEADER_LENGTH : goal.returns-then-out-ge-HEADER_LENGTH
returns-then-out-ge-HEADER_LENGTH c =
    let old = c.args.out.now in
    ap₂ (λ (x y : List ℕ). put_mid 3 2 (x ++ drop 3 old) y) c.copy_from_slice.ensures.after
    (c.copy_from_slice-then-out-ge-HEADER_LENGTH.ensures.after ∙ c.to_le_bytes.ensures)
    ∙ header_stored c.args.mark c.args.version old (search rules) c.if-out-ge-HEADER_LENGTH.true

pub returns-else-out-ge-HEADER_LENGTH : goal.returns-else-out-ge-HEADER_LENGTH
returns-else-out-ge-HEADER_LENGTH c = sym (put_short _ _ (rw length_header_lem c.if-out-ge-HEADER_LENGTH.false))

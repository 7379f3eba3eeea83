use Rattle.std.proofs.Common.{◌∙◌, sym}
use Rattle.std.proofs.Common.{refl}
use Rattle.response_files.specs.Headers.{is_remark}
use Rattle.response_files.proofs.Lines.{first-byte, byte-last}
use Rattle.response_files.proofs.is_remark.Goals as goal

pub returns-then-starts_with : goal.returns-then-starts_with
unfolding is_remark
returns-then-starts_with c =
    let l = c.args.line.now in
    let first = sym (first-byte l 35 refl) ∙ sym c.starts_with.ensures.value ∙ c.if-starts_with.true in
    rw (c.if-starts_with.true, first)

pub returns-then-starts_with-2 : goal.returns-then-starts_with-2
unfolding is_remark
returns-then-starts_with-2 c =
    let l = c.args.line.now in
    let first = sym (first-byte l 35 refl) ∙ sym c.starts_with.ensures.value ∙ c.if-starts_with.false in
    let bracket = sym (first-byte l 91 refl) ∙ sym c.starts_with-else-starts_with.ensures.value ∙ c.if-starts_with-2.true in
    rw (first, bracket) (c.ends_with.ensures.value ∙ byte-last l 93 refl)

pub returns-else-starts_with-2 : goal.returns-else-starts_with-2
unfolding is_remark
returns-else-starts_with-2 c =
    let l = c.args.line.now in
    let first = sym (first-byte l 35 refl) ∙ sym c.starts_with.ensures.value ∙ c.if-starts_with.false in
    let bracket = sym (first-byte l 91 refl) ∙ sym c.starts_with-else-starts_with.ensures.value ∙ c.if-starts_with-2.false in
    rw (c.if-starts_with-2.false, first, bracket)

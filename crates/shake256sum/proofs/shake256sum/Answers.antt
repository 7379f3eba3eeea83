use Rattle.std.proofs.Common.{◌∙◌, sym}
use Rattle.shake256sum.proofs.Printing.{within, above}
use Rattle.shake256sum.proofs.shake256sum.Goals as goal

pub returns-then-input-gt-MOST : goal.returns-then-input-gt-MOST
returns-then-input-gt-MOST c =
    let (none, message) = above c.args.input.now c.if-input-gt-MOST.true in
    record { line = tt; error = (sym message, none) }

pub returns : goal.returns
returns c =
    let (line, none) = within c.args.input.now c.if-input-gt-MOST.false in
    record { line = (c.line_of.ensures ∙ sym line, none); error = tt }

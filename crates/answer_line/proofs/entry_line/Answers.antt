use Rattle.std.proofs.Common.{◌∙◌, ap, arith, length, take, ◌≡◌}
use lib.Seq.{take_all}
use Rattle.lists.specs.Table.{zeros}
use Rattle.hexadecimal.specs.Hex.{text_of}
use Rattle.hexadecimal.proofs.Text.{length_text}
use Rattle.answer_line.specs.Line.{line_of}
use Rattle.answer_line.proofs.Lines.{written_whole, entry_fits_lem}
use Rattle.answer_line.proofs.entry_line.Goals as goal

pub returns : goal.returns
returns c =
    let size : length (text_of c.args.entry) ≡ 32 = omega (arith, length_text c.args.entry) in
    let digits = c.encode.ensures ∙ written_whole (text_of c.args.entry) (zeros 32) size in
    c.line_of.ensures ∙ ap (λ l. take 35 (line_of 0 l)) digits ∙ take_all 35 _ (entry_fits_lem (text_of c.args.entry) size)

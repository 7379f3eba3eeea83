use Rattle.std.proofs.Common.{◌∙◌, [], ◌∷◌}
use Rattle.text.specs.Text.{decimal}
use Rattle.text.proofs.Texts.{put_more}
use Rattle.refusal_line.proofs.Lines.{refusal-put}
use Rattle.refusal_line.proofs.line.Goals as goal

pub returns : goal.returns
returns c =
    let told = c in
    let digits = put_more 21 [] (decimal c.number.result) c.new-line.ensures c.push_decimal.ensures in
    put_more 21 _ (10 ∷ []) digits c.push.ensures ∙ refusal-put told.args.answer told.in_default.is c.number.ensures

use Rattle.std.proofs.Common.{[], ◌∷◌}
use Rattle.text.specs.Text.{decimal}
use Rattle.text.proofs.Texts.{put_more}
use Rattle.answer_line.proofs.line_of.Goals as goal

pub returns : goal.returns
returns c =
    let number = put_more 35 [] (decimal c.args.n) c.new-line.ensures c.push_decimal.ensures in
    let apart = put_more 35 _ (32 ∷ []) number c.push.ensures in
    let all = put_more 35 _ c.args.shown.now apart c.push-2.ensures in
    put_more 35 _ (10 ∷ []) all c.push-3.ensures

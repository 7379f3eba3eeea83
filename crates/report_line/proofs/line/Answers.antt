use Rattle.std.proofs.Common.{[], ◌∷◌}
use Rattle.text.proofs.Texts.{put_more}
use Rattle.report_line.specs.Line.{file_text, file_line}
use Rattle.report_line.proofs.line.Goals as goal

pub returns : goal.returns
unfolding file_line
returns c =
    let named = put_more 256 [] c.args.name.now c.new-line.ensures c.push.ensures in
    let parted = put_more 256 _ (58 ∷ 32 ∷ []) named c.push-2.ensures in
    let told = put_more 256 _ (file_text c.args.read) parted c.push_file.ensures in
    put_more 256 _ (10 ∷ []) told c.push-3.ensures

use Rattle.text.specs.Text.{decimal}
use Rattle.text.proofs.Texts.{put_both}
use Rattle.report_line.specs.Line.{counts_text}
use Rattle.report_line.proofs.push_counts.Goals as goal

pub returns : goal.returns
unfolding counts_text
returns c =
    let old = c.args.line.now in
    let agreed = put_both 256 old (decimal c.args.counts.agreed) _ c.push_decimal.ensures c.push.ensures in
    let differed = put_both 256 old _ (decimal c.args.counts.differed) agreed c.push_decimal-2.ensures in
    put_both 256 old _ _ differed c.push-2.ensures

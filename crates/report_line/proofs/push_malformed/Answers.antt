use Rattle.text.specs.Text.{decimal}
use Rattle.text.proofs.Texts.{put_both}
use Rattle.report_line.specs.Line.{malformed_text}
use Rattle.report_line.proofs.push_malformed.Goals as goal

pub returns : goal.returns
unfolding malformed_text
returns c =
    let old = c.args.line.now in
    let named = put_both 256 old _ c.args.what.now c.push.ensures c.push-2.ensures in
    put_both 256 old _ (decimal c.args.place) named c.push_decimal.ensures

use Rattle.std.proofs.Common.{rules}
use Rattle.reading.proofs.Consumed.{consumed_more}
use Rattle.reading.proofs.read_full.Goals as goal

pub loop-done-preserved : goal.loop-done-preserved
loop-done-preserved g c =
    (search rules, search rules, consumed_more _ _ _ _ _ _ _ c.read_at.ensures.front c.loop-done.invariant.2 c.in_ok-n.ensures.bytes)

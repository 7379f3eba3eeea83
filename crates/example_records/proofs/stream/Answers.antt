use Rattle.example_records.proofs.Streams.{written_none, written_more, written_all}
use Rattle.example_records.proofs.stream.Goals as goal

pub loop-k-init : goal.loop-k-init
loop-k-init c = written_none c.args.words c.args.low c.args.high

pub loop-k-preserved : goal.loop-k-preserved
loop-k-preserved c = written_more c.loop-k.invariant c.loop-k-test.true c.requires

pub returns : goal.returns
returns c = written_all c.loop-k.invariant c.loop-k-test.false

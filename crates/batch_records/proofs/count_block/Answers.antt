use borrow.Author.Rules.{rules}
use Rattle.batch_records.specs.Batches.{count_block}
use Rattle.batch_records.proofs.count_block.Goals as goal

pub returns : goal.returns
unfolding count_block
returns c = search rules

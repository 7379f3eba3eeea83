use Rattle.std.proofs.Common.{rules}
use Rattle.batch_records.proofs.count_answer.Goals as goal

pub returns-in_err-unless : goal.returns-in_err-unless
returns-in_err-unless c = search rules

pub returns : goal.returns
returns c = search rules

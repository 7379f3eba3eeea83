use native.Mathlib.Omega.{arith}
use Rattle.batch_records.specs.Batches.{count_of}
use borrow.Author.Rules.{rules}
use Rattle.batch_records.proofs.count.Goals as goal

pub returns : goal.returns
unfolding count_of
returns c = (omega (arith, c.word.ensures, c.byte_at-high.ensures, c.byte_at-low.ensures), search rules)

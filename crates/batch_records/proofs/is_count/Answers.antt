use Rattle.batch_records.specs.Batches.{is_count}
use mathlib.Core.Path.{refl}
use Rattle.batch_records.proofs.is_count.Goals as goal

pub returns : goal.returns
unfolding is_count
returns c = refl

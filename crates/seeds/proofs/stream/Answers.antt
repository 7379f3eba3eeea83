use Rattle.seeds.specs.Seeds.{seed_stream}
use Rattle.seeds.proofs.stream.Goals as goal

pub returns : goal.returns
unfolding seed_stream
returns c = c.shake128.ensures

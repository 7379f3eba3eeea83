use Rattle.ring.proofs.RingLaws.{one_is}
use Rattle.ring.proofs.one.Goals as goal

pub returns : goal.returns
returns c = one_is

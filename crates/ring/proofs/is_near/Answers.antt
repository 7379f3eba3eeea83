use Rattle.ring.proofs.Scans.{near_low, near_high}
use Rattle.ring.proofs.is_near.Goals as goal

pub returns-then-y-k : goal.returns-then-y-k
returns-then-y-k c =
    let at = c in
    near_low at.args.k at.args.x (rw at.reduce-y.ensures at c.if-y-k.true)

pub returns : goal.returns
returns c =
    let at = c in
    let e = at.reduce-y.ensures in
    rw e (near_high at.args.k at.args.x (rw e at c.if-y-k.false))

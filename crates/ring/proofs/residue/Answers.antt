use native.Mathlib.Omega.{arith}
use Rattle.ring.proofs.Signed.{away-fits, away_is, stays, size_word, negative-residue, natural-residue}
use Rattle.ring.proofs.residue.Goals as goal

pub overflow_sub-k : goal.overflow_sub-k
overflow_sub-k c = away-fits c.args.m c.ranges.m c.if-m-lt0.true

pub overflow_cast-k : goal.overflow_cast-k
overflow_cast-k c =
    let start = c in
    size_word start.args.m start.ranges.m _ (away_is start.args.m start.ranges.m c.if-m-lt0.true)

pub overflow_sub-result-then-m-lt0 : goal.overflow_sub-result-then-m-lt0
overflow_sub-result-then-m-lt0 c =
    let start = c in
    rw (away_is start.args.m start.ranges.m c.if-m-lt0.true) (omega (arith, start.ranges.m.sfits))

pub returns-then-m-lt0 : goal.returns-then-m-lt0
returns-then-m-lt0 c = negative-residue c.args.m c.ranges.m c.if-m-lt0.true

pub overflow_cast-result : goal.overflow_cast-result
overflow_cast-result c =
    let start = c in
    size_word start.args.m start.ranges.m _ (stays start.args.m start.ranges.m c.if-m-lt0.false)

pub returns : goal.returns
returns c = natural-residue c.args.m c.ranges.m c.if-m-lt0.false

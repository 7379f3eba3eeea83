use Rattle.ring.proofs.Signed.{centre_low, centre-fits, centre_high}
use native.Mathlib.Omega.{arith}
use Rattle.ring.proofs.centred.Goals as goal

pub overflow_cast-result : goal.overflow_cast-result
overflow_cast-result c = record { sfits = omega arith }

pub returns-then-y-le29696 : goal.returns-then-y-le29696
returns-then-y-le29696 c = centre_low c.args.c c.if-y-le29696.true

pub overflow_cast-z : goal.overflow_cast-z
overflow_cast-z c = record { sfits = omega arith }

pub overflow_sub-result : goal.overflow_sub-result
overflow_sub-result c = centre-fits c.args.c c.if-y-le29696.false

pub returns : goal.returns
returns c = centre_high c.args.c c.if-y-le29696.false

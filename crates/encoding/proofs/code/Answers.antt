use native.Mathlib.Omega.{arith}
use lib.Dec.{eqb}
use Rattle.ring.specs.Ring.{q}
use Rattle.encoding.specs.Codes.{code_of}
use Rattle.encoding.proofs.Codes.{chosen, bool_byte-lt, code_lt}
use Rattle.encoding.proofs.code.Goals as goal

pub overflow_mul-result : goal.overflow_mul-result
overflow_mul-result c = omega (arith, bool_byte-lt (eqb c.args.c 59392))

pub overflow_add-result : goal.overflow_add-result
overflow_add-result c = omega (arith, bool_byte-lt (eqb c.args.c 1), bool_byte-lt (eqb c.args.c 59392))

pub returns : goal.returns
unfolding code_of
returns c =
    let e = chosen c.args.c 1 59392 2 (omega arith) in
    (e, rw e (code_lt q c.args.c))

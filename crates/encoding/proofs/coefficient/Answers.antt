use native.Mathlib.Omega.{arith}
use lib.Dec.{eqb}
use Rattle.encoding.specs.Codes.{coefficient_of}
use Rattle.encoding.proofs.Codes.{chosen, bool_byte-lt}
use Rattle.encoding.proofs.coefficient.Goals as goal

pub overflow_mul-result : goal.overflow_mul-result
overflow_mul-result c = omega (arith, bool_byte-lt (eqb c.args.code 2))

pub overflow_add-result : goal.overflow_add-result
overflow_add-result c = omega (arith, bool_byte-lt (eqb c.args.code 1), bool_byte-lt (eqb c.args.code 2))

pub returns : goal.returns
unfolding coefficient_of
returns c = chosen c.args.code 1 2 59392 (omega arith)

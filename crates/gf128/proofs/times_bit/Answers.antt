use native.Mathlib.Omega.{arith}
use Rattle.lists.proofs.Xor.{bit_le}
use Rattle.gf128.proofs.times_bit.Goals as goal

pub overflow_mul-result : goal.overflow_mul-result
overflow_mul-result c = omega (arith, bit_le c.args.bit c.args.e.lo c.requires)

pub overflow_mul-result-2 : goal.overflow_mul-result-2
overflow_mul-result-2 c = omega (arith, bit_le c.args.bit c.args.e.hi c.requires)

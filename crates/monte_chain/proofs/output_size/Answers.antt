use native.Mathlib.Omega.{arith}
use Rattle.monte_chain.proofs.Chains.{sizes_ordered, greatest-most, size-most}
use Rattle.monte_chain.proofs.output_size.Goals as goal

pub overflow_sub-sizes : goal.overflow_sub-sizes
overflow_sub-sizes c = rw (c.least_size-least.ensures, c.greatest_size.ensures) (sizes_ordered c.args.function)

pub overflow_add-sizes : goal.overflow_add-sizes
overflow_add-sizes c = omega (arith, c.greatest_size.ensures, greatest-most c.args.function)

pub returns : goal.returns
returns c = rw (c.least_size-least.ensures, c.greatest_size.ensures)

pub overflow_add-result : goal.overflow_add-result
overflow_add-result c = omega (arith, returns c, size-most c.args.function c.args.extra)

use native.Mathlib.Omega.{arith}
use Rattle.modq.proofs.Products.{product-fits}
use borrow.Author.Rules.{rules}
use Rattle.modq.proofs.high.Goals as goal

pub overflow_mul-result : goal.overflow_mul-result
overflow_mul-result c = record { fits = omega (arith, product-fits {a = c.args.a} {b = c.args.b} (search rules) (search rules)) }

pub overflow_cast-result-3 : goal.overflow_cast-result-3
overflow_cast-result-3 c = record { fits = omega (arith, product-fits {a = c.args.a} {b = c.args.b} (search rules) (search rules)) }

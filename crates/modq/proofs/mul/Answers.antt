use borrow.Author.Rules.{rules}
use Rattle.modq.proofs.Products.{product-fits}
use Rattle.modq.proofs.mul.Goals as goal

pub overflow_mul-result : goal.overflow_mul-result
overflow_mul-result c = record { fits = product-fits (search rules) (search rules) }

-- The promises of crate exactness at 1,024 coefficients.
use Rattle.exactness.specs.Promises.{Promises}
use Rattle.exactness.proofs.Promises as E
use Rattle.scheme.specs.Scheme.{setting}
use Rattle.scheme.proofs.Givens.{givens}

-- X^n = - 1 makes no coefficient larger
pub promises : Promises setting 1
unfolding givens
promises = E.promises setting givens

-- q is prime, and 3 is a 1,024th root of - 1 modulo q.
use mathlib.Core.Path.{refl}
use Prim.Native.Nat.{◌<◌}
use lib.Dec.{lit<}
use Rattle.algebra.specs.Residues.{Prime}
use Rattle.algebra.specs.Negacyclic.{NegacyclicRoot}
use Rattle.algebra.proofs.Inverses.{prime_by-trial}
use Rattle.modq.specs.Modulus.{q}

-- the one proof of it that rings modulo q are made with
pub q-positive : 0 < q
q-positive = lit< tt

-- no number from 2 to 243 divides q, and q < 244²
pub q-prime : Prime q
q-prime = prime_by-trial q 242 (lit< tt) (lit< tt) tt

-- 3^1024 is q - 1, and 59,335 is the reciprocal of 1,024
pub negacyclic-root : NegacyclicRoot q 1023 10 3 59335
negacyclic-root = record { degree = refl; prime = q-prime; root = refl; inverse = refl }

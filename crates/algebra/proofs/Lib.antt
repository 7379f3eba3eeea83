-- Laws and theorems.

-- in every commutative ring, and modulo q
pub mod Ring
pub mod Residues
pub mod Inverses
-- R[X]/(X^n - r) for every rule, evaluation, transforms, units
pub mod Polynomials
pub mod Evaluation
pub mod Transform
pub mod Units
pub mod Halving
-- on lists of numbers, for every rule and transform
pub mod Numbers
pub mod Elements
pub mod Values
pub mod NumberTransform
pub mod NumberRing
-- on lists of numbers, X^n = - 1
pub mod PlainProduct
pub mod Negacyclic
-- bounds
pub mod Size

-- Definitions and the records that theorems are stated with.

-- rings, polynomials modulo a rule, their values, and transforms as trees of splits
pub mod Ring
pub mod Residues
pub mod Polynomials
pub mod Evaluation
pub mod Transform
pub mod Halving
-- the same on lists of numbers, as code shows them
pub mod Numbers
pub mod OnNumbers
pub mod Negacyclic
-- bounds
pub mod Size

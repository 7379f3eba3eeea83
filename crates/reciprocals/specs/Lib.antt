-- Definitions that the contracts cite.
pub mod Reciprocals
-- what the private steps of `reciprocals` make
pub mod Tree

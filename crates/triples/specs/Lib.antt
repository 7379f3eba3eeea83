-- Triples as bytes.
pub mod Triple
-- when they are well formed
pub mod WellFormed

-- Batches as bytes.
pub mod Batches
pub mod Read
-- when they are well formed
pub mod WellFormed

-- Records as bytes.
pub mod Layout
pub mod Records
pub mod Read
-- when they are well formed
pub mod WellFormed
-- the word that an answer names
pub mod Named

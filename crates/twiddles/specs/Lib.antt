-- Definitions that the contracts of this crate cite.
pub mod Powers
pub mod Factors

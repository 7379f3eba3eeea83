-- The a of a seed.
pub mod Seeds

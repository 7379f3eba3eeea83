-- The largest size among integers.
pub mod Largest

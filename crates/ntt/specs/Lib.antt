-- Definitions that the contracts of this crate cite.
pub mod Spectrum
pub mod Layers
pub mod Factors

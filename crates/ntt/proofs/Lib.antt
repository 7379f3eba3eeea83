-- Laws and theorems.
pub mod Layers
pub mod Join
pub mod Factors
pub mod Scaling
pub mod Spectrum

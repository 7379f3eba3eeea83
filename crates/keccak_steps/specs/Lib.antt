-- The state and the step mappings of Keccak-p[1600, 24] of FIPS 202.
pub mod Constants
pub mod Steps

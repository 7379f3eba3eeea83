-- Keccak-p[1600, 24] of FIPS 202.
pub mod Keccak
pub mod Complementing

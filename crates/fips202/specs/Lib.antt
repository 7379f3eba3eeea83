-- FIPS 202 on strings of bits, as the standard writes it.
pub mod Keccak
pub mod Shake

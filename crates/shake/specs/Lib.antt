-- The sponge, SHAKE128 and SHAKE256 of FIPS 202.
pub mod Sponge
pub mod Shake

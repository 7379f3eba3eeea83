-- The definitions on lanes and bytes are those of FIPS 202 on bits.
pub mod Keccak
pub mod Shake

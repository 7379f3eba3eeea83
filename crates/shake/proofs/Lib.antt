-- Laws of the sponge and of SHAKE256.
pub mod Blocks
pub mod Output

-- New keys, and triples from noise.
pub mod Keys
-- a new key as it is given
pub mod New

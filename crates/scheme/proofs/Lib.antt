-- The promises of crate exactness hold at 1,024 coefficients.
pub mod Givens
pub mod Promises
-- What callers cite.
pub mod Exactness
pub mod Keys
pub mod NoiseBound
-- The steps as the code takes them.
pub mod Steps

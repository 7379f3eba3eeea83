-- For the proofs of the functions.
pub mod Agreement

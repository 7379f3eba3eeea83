-- What the contracts of `gf128_vectors` cite.
pub mod Cases

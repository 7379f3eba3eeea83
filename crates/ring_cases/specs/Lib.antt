-- What the contracts of `ring_vectors` cite.
pub mod Cases

-- What the contracts of `reference_vectors` cite.
pub mod Cases

-- What the contracts cite.
pub mod Cases

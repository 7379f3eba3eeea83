-- What the contracts of `shake256sum` cite.
pub mod Line

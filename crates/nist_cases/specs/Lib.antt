-- What the contracts of `nist_cases` cite.
pub mod Cases

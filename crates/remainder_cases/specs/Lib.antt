-- What the contracts of `remainder_cases` cite.
pub mod Remainders

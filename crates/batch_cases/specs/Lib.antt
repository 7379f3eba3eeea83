-- What the contracts of `batch_cases` cite.
pub mod BatchCases

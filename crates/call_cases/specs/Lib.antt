-- What the contracts of `call_cases` cite.
pub mod CallCases

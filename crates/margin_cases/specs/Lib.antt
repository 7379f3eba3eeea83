-- What the contracts of `margin_cases` cite.
pub mod MarginCases

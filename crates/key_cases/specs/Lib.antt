-- What the contracts of `key_cases` cite.
pub mod KeyCases

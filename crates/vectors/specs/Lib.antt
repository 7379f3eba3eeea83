-- What the contracts of `vectors` cite.
pub mod Fields
pub mod Answers

-- What the proofs of programs share: lists that are the same, the fields of a text, and the count over its cases.
pub mod Answers
pub mod Texts
pub mod Cases

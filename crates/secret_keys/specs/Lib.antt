-- Secret keys of either version.
pub mod SecretKeys
-- when they are well formed and sound, and which of their words is named
pub mod WellFormed
-- What is read of them, where their checks pass.
pub mod Read

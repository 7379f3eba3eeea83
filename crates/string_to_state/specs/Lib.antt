-- Strings of bytes as states.
pub mod Words

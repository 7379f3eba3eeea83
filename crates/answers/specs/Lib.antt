-- Answers and their numbers.
pub mod Answers
-- The words that they name, and the codes of exports.
pub mod Locations

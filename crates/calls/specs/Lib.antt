-- The public calls.
pub mod Calls
-- What is promised of them.
pub mod Promises
-- The words that they name, and the codes of exports.
pub mod Located

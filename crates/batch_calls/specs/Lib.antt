-- The calls on batches.
pub mod Calls
-- What is promised of them.
pub mod Promises

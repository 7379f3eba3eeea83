-- What opening with margin gives.
pub mod Calls
-- What is promised of it.
pub mod Promises

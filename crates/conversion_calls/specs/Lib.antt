-- What the calls that convert secret keys answer, and write.
pub mod Calls
-- What is promised of them, and of keys of either version.
pub mod Promises

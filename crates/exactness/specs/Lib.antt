-- The scheme over any setting.
pub mod Setting
pub mod Scheme
-- What is promised of it, and from what that is argued.
pub mod Promises
pub mod Givens

-- The ring of a setting, the identities behind the scheme, and sizes.
pub mod Elements
pub mod Identities
pub mod Sizes
-- The steps of decapsulation.
pub mod Step1
pub mod Noise
pub mod Recovery
pub mod Outcomes
-- Exactness and the key check.
pub mod Soundness
pub mod Completeness
pub mod Exactness
pub mod KeyCheck
-- All promises.
pub mod Promises

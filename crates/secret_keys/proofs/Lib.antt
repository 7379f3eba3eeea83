-- Each check of a secret key: when it says Done, and which numbers it says.
pub mod Checks
-- All of them, of either version.
pub mod SecretLaws
-- .. and of one.
pub mod VersionLaws
-- Its elements.
pub mod ElementLaws
-- For the proofs of the functions: answers in their order, and what was read.
pub mod Joined

-- Public keys of either kind, and when they are well formed.
pub mod PublicKeys
-- what is read of them
pub mod Read
pub mod WellFormed

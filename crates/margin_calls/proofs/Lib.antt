-- How large w can be.
pub mod QuotientsExact
-- The call.
pub mod MarginExact
pub mod Promised

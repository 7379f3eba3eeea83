-- A public key by its kind.
pub mod EitherKind
-- When its checks say Done, 6 and 8.
pub mod PublicLaws

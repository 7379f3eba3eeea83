-- The front of what is sealed.
pub mod Front

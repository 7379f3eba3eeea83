-- The margin by what is answered.
pub mod Laws

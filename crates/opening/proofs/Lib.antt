-- Laws of opening.
pub mod Laws

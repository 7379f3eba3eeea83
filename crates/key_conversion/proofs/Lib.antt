-- What a key that is converted is known to be.
pub mod Laws

-- Laws of sealing.
pub mod Laws

-- What the parts of sealing give.
pub mod Parts

-- Laws of outputs.
pub mod Outputs

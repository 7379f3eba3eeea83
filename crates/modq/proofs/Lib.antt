-- Laws that the other crates' proofs cite.
pub mod Prime
pub mod Products
pub mod Montgomery
pub mod Reciprocals

-- Laws that the other crates' proofs cite.
pub mod Equal
pub mod Maps
pub mod Tables
pub mod Zeros
pub mod Parts
pub mod Fill
pub mod TableFill
pub mod Scan
pub mod Both
pub mod Finite
pub mod Bits
pub mod Xor
pub mod ByteLists
pub mod FromFn

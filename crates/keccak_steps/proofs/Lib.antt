-- Laws on states and on lanes of 64 bits.
pub mod States
pub mod Given
pub mod Words

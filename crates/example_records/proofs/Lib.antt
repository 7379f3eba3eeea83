-- Laws of what the examples are made of.
pub mod Behind
pub mod Streams

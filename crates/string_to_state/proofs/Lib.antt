-- Laws of the lanes of a string.
pub mod Lanes

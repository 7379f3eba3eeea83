-- Laws of the line.
pub mod Lines

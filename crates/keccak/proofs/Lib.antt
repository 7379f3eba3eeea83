-- Laws of the rounds: lanes stay within 64 bits, complemented lanes.
pub mod Wide
pub mod Complementing

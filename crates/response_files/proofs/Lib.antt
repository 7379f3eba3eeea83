-- Laws of the definitions of specs/.
pub mod Lines
pub mod Numbers
pub mod Headers
pub mod Hex

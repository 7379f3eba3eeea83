-- Laws of the keys by the input's length, and of what is printed.
pub mod Keys
pub mod Printing

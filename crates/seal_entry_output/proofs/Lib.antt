-- Laws of the answer and of what is printed.
pub mod Printing

-- Laws of the definitions of specs/.
pub mod Digits
pub mod Text
pub mod First

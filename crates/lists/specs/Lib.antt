-- What definitions of the other crates are written with.
pub mod Table
pub mod First
pub mod Bits

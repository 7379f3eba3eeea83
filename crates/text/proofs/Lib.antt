-- Laws of texts.
pub mod Texts
pub mod Decimals

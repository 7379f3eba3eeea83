-- Definitions that the contracts cite: document 01, "Bytes". Each holds for every list of bytes, of any length.
pub mod Digits
pub mod Words
pub mod Codes
pub mod Header
pub mod Buffers

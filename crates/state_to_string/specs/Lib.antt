-- States as strings of bytes.
pub mod Bytes

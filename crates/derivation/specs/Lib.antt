-- Definitions that the contracts cite: document 01, "Bytes".
pub mod Derivation

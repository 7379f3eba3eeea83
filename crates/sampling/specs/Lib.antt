-- Definitions that the contracts cite: document 01, "Desk key", with the sum of four bits of document 02, No. 1.
pub mod Noise
pub mod Stream

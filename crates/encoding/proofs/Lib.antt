-- Laws of the definitions of specs/.
pub mod Digits
pub mod Words
pub mod Codes
pub mod Headers
pub mod Buffers
-- Decoders and encoders undo each other.
pub mod RoundTrips

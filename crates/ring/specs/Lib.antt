-- Definitions that the contracts cite. A product is the plain sum over pairs. Only `is_invertible` is made by a transform, and its type,
-- `Dec (Invertible b)`, fixes the answer whatever way it is found.
pub mod Ring
pub mod Invertible
pub mod Centred
pub mod Division
pub mod Reciprocals

-- The ring and its laws.
pub mod RingLaws
pub mod Powers
pub mod Ternaries
-- Centred values, residues, remainders and quotients.
pub mod Integers
pub mod Centring
pub mod RemainderLaws
pub mod QuotientLaws
-- For the proofs of the functions: signed values, scans.
pub mod SignedValues
pub mod Signed
pub mod Scans
-- Products and inverses by the transform.
pub mod Transforms
pub mod Spectra
pub mod Inverses

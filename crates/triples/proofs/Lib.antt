-- Laws of triples as bytes.
pub mod Triples
pub mod TripleLaws
-- Readers find what writers wrote.
pub mod WrittenTriples

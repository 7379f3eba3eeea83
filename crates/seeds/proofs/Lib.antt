-- Laws of the stream of a seed.
pub mod SeedStream

-- Laws of the definitions of specs/.
pub mod NoiseLaws
pub mod Streams
-- For the proofs of the noise: the values that are written so far.
pub mod FrontFill
-- For the proof of `uniform`: the words that are taken so far.
pub mod Reading

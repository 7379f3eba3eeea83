-- The scheme at 1,024 coefficients.
pub mod Scheme
-- What decapsulation answers.
pub mod Answers
-- How large m of step 2 can be.
pub mod Noise

-- Openings of what was read.
pub mod Outcomes

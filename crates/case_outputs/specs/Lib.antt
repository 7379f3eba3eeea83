-- What the contracts of `case_outputs` cite.
pub mod Outputs

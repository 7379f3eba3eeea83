-- What the contracts of `monte_chain` cite.
pub mod Monte

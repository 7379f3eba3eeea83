-- The starred worked examples.
pub mod Examples

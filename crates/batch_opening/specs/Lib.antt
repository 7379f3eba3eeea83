-- What private functions answer.
pub mod Parts

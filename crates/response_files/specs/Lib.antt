-- What the contracts of `response_files` cite.
pub mod Lines
pub mod Fields
pub mod Headers

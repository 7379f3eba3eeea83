-- What the contracts of `location_text` cite.
pub mod Words

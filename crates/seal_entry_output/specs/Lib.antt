-- What the contracts of `seal_entry` cite.
pub mod SealEntry

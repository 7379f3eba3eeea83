-- What the contracts of `worked_examples` cite.
pub mod Made

-- What the contracts of `make_key` cite.
pub mod MakeKey

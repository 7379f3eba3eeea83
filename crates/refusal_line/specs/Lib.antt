-- What the contracts of `refusal_line` cite.
pub mod Line

-- What the contracts of `desk_line` cite.
pub mod Line

-- What the contracts of `desk_opening` cite.
pub mod Input

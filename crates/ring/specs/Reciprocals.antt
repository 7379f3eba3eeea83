-- The reciprocals of a spectrum, and whether they exist: as in crate reciprocals.
pub use Rattle.reciprocals.specs.Reciprocals.{is_nonzero}
unfoldable pub use Rattle.reciprocals.specs.Reciprocals.{has_zero, reciprocals_of}

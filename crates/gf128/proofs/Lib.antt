-- The product on two words and by Horner's rule, and the field's laws on numbers.
pub mod TwoWords
pub mod Horner
pub mod NumberLaws
-- Elements as bytes, and the field's laws on them.
pub mod Digits
pub mod FieldLaws
-- A sum in place, the tag, and comparison.
pub mod InPlace
pub mod TagLaws
pub mod Comparison

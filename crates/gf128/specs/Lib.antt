-- The field, its elements as bytes, and the tag.
pub mod Field
pub mod Bytes
pub mod Powers
-- what the private steps of the product keep
pub mod Words

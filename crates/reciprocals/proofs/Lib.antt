-- One entry that is zero, and none.
pub mod HasZero
-- Every product of two entries is 1.
pub mod AreReciprocals
-- The tree of products, level by level, and as a whole.
pub mod Levels
pub mod Trees

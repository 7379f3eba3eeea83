-- When the checks of a key say Done, 6 and 8.
pub mod KeyLaws

-- No entry passes the largest size, one reaches it; and the largest size by a fold.
pub mod LargestLaws

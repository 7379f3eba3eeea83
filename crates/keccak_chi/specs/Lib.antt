-- Chi on a state with complemented lanes.
pub mod Complementing

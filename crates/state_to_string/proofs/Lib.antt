-- Laws of the bytes of lanes.
pub mod LaneBytes

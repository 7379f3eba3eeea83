-- Laws on complemented lanes.
pub mod Complements
pub mod Masks
pub mod ChiPlanes

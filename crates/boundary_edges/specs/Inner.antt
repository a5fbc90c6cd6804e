-- What inner contracts alone speak of: no promise rests on it.
pub mod Blocks
pub mod BoundaryBits
pub mod Bounds
pub mod GridEdges
pub mod Taken

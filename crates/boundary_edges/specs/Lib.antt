pub mod GridEdges
pub mod Inside
pub mod Bounds
pub mod Inner

pub mod LeastWalk
pub mod Windows
pub mod Inner

pub mod Straight
pub mod Cones
pub mod Corners
pub mod Inner

pub mod Polygon
pub mod Inner

pub mod PagePoints
pub mod Inner

pub mod PointsFile
pub mod Filled
pub mod FillText
pub mod Inner

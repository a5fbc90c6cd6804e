pub mod Distance
pub mod Curves
pub mod Polygons
pub mod Written
pub mod Pages

pub mod Heading
pub mod Boundary
pub mod PixelCorner
pub mod Majority
pub mod Turn
pub mod Inner

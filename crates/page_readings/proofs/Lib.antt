pub mod Reach
pub mod TwoPieces
pub mod Shapes
pub mod Pages
pub mod Files

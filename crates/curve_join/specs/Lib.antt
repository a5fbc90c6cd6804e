pub mod Vector
pub mod Outline
pub mod Bends
pub mod Least
pub mod Cubic
pub mod Join
pub mod Choice
pub mod Inner

-- What moves with a path, step by step from its vertices to its joined outline.
pub mod Floors
pub mod Lists
pub mod Vertices
pub mod Pieces
pub mod Bends
pub mod Cubics
pub mod Runs
pub mod Joins
pub mod Copies
mod Examples

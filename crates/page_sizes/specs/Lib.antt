pub mod Edges
pub mod Bytes

pub mod Command
pub mod Given
pub mod Parsed
pub mod Inner

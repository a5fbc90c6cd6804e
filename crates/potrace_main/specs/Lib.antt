pub mod Demo
pub mod Usage
pub mod Run
pub mod Inner

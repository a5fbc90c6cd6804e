pub mod Names
pub mod Messages
pub mod Made
pub mod Status
pub mod Parts
pub mod Told
pub mod Inner

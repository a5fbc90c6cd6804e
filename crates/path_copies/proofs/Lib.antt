pub mod Comparing
pub mod Same
mod Examples

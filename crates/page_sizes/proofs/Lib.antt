pub mod Sided
pub mod Counted
pub mod Weights
pub mod Listed
pub mod Grouped
pub mod Penned
pub mod Drawn
pub mod Chorded
pub mod Fewer
pub mod Certificates
pub mod Documents
pub mod Files
mod Examples

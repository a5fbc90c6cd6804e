pub mod OneLeast
pub mod Lists
pub mod Going
pub mod Before
pub mod Walks
pub mod Onward
pub mod Places
pub mod Marking
pub mod Filling
pub mod Widening
pub mod Cheapest
pub mod Written
pub mod Exists
mod Examples

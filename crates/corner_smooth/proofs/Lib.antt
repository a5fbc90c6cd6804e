pub mod Examples
pub mod Fitting
pub mod Round
pub mod Sharing

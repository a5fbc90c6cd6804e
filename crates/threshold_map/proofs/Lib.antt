-- Examples of black levels, and the brightest black samples.
mod Examples
pub mod Limits

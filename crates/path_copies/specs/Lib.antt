pub mod Copy
pub mod Inner

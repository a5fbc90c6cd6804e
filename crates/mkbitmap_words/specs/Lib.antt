pub mod FilterAsked
pub mod Inner

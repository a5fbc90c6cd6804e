pub mod Manner
pub mod FileItems
pub mod Order
pub mod Outcome
pub mod Alike
pub mod OnePass
pub mod LastBatch
pub mod Inner

pub mod Items
pub mod ItemsDone
pub mod Held
pub mod Inner

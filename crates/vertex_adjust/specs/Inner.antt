-- Definitions for inner contracts: no promise rests on them.
pub mod Line
pub mod LineBounds
pub mod Quadratic

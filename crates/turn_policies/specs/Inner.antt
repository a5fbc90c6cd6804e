-- Definitions for inner contracts: no promise rests on them.
pub mod Square

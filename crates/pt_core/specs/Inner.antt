-- Definitions for inner contracts: no promise rests on them.
pub mod Counts
pub mod Documents
pub mod Files

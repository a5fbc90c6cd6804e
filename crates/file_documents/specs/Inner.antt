-- Definitions that only inner contracts use: no promise rests on them.
pub mod Manner
pub mod Outcome
pub mod Progress
pub mod Tasks
pub mod Unopened

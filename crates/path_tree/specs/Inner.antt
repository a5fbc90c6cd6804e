-- Definitions for inner contracts: no promise rests on them.
pub mod Candidates
pub mod Free
pub mod Holders
pub mod Starts

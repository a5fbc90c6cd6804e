-- Definitions that only inner contracts use. No promise rests on them.
pub mod FilterRun
pub mod FilterWork
pub mod Head
pub mod Put

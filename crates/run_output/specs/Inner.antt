-- Definitions that only inner contracts use. No promise rests on them.
pub mod Made
pub mod Parts
pub mod Told

-- Definitions that only inner contracts use. No promise rests on them.
pub mod Areas
pub mod Bends
pub mod Choice
pub mod Conditions
pub mod Costs
pub mod Cubic
pub mod CutSearch
pub mod Halves
pub mod Powers

-- Definitions that only inner contracts use. No promise rests on them.
pub mod CentrePlace
pub mod Enlarged
pub mod Packing
pub mod Layout

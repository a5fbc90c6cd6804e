-- Lemmas about weighted means.
pub mod Means

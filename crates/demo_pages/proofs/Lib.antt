-- Lemmas about the states of the generator and the pages made from them.
mod Examples
pub mod Draws

-- Lemmas about the runs of small programs and their input.
pub mod TakenInput
pub mod Endings

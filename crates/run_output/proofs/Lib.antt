-- Lemmas about names, parts and messages; those that the crates above cite too are public.
pub mod Calls
pub mod CutParts
pub mod NameExamples
pub mod NameCounts
pub mod PieceRuns

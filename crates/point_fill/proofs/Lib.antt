-- Lemmas about points texts, marks and sweeps.
pub mod UniqueReading
pub mod Traced
pub mod LoopPoints
pub mod Marks
pub mod RowSweeps
pub mod PathLists
pub mod Whole
mod Examples

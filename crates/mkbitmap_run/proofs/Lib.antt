-- Lemmas about rows that are read and written, and about how a run ends.
pub mod RowPrefixes
pub mod GivenRows
pub mod ResultRows
pub mod CutDocuments
pub mod PageWork
pub mod BrokenOff
pub mod TakenBytes
pub mod PageEndings
pub mod HeaderEndings
pub mod Whole

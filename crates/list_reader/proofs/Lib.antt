-- A text is read in one way: as numbers, points, indices, signs, lines and lists.
pub mod Runs
pub mod EntryLines
pub mod NumberPairs
pub mod SidesLines
pub mod SignedAreas
pub mod Bytes
pub mod ListParts
pub mod NoResult
mod Examples

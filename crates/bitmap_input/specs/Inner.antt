-- Definitions for inner contracts: no promise rests on them.
pub mod Behind
pub mod BmpHead
pub mod BmpHeader
pub mod Buffer
pub mod ByteRuns
pub mod FaultText
pub mod GrayReader
pub mod GrayRows
pub mod Header
pub mod Number
pub mod Raster
pub mod Reading
pub mod RowWords
pub mod Shading
pub mod Skip
pub mod Stored

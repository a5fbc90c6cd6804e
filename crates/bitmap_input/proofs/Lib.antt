-- The reader's steps give what the definitions say, for any bytes and any inputs, and read no more than they
-- need.
mod Examples
mod BmpExamples
mod GrayExamples
mod ColorExamples
pub mod Bytes
pub mod AddedBytes
pub mod BmpStays
pub mod FrontStays
pub mod NeededBytes
pub mod ComposedSteps
pub mod Places
pub mod FilledBuffer
pub mod ByteRuns
pub mod Digits
pub mod Headers
pub mod Pixels
pub mod PaintedPixels
pub mod Blocks
pub mod SkippedBytes
pub mod Heads
pub mod BmpSteps
pub mod BmpPixels
pub mod BmpBits
pub mod PaintedRows
pub mod PackedWords
pub mod Rows
pub mod SampleBytes
pub mod RasterPages
pub mod Shown
pub mod Bodies
pub mod BmpPictures
pub mod LastBytes
pub mod BmpKeeps
pub mod BmpLengths
pub mod Formats
pub mod FrontKeeps
pub mod PageBytes
pub mod Behind
pub mod Rests
pub mod ReaderResults
pub mod Longest
pub mod StepEffects
pub mod Files
pub mod Sided
pub mod GrayHeaders
pub mod GatheredParts
pub mod NeverEnds
pub mod GrayAnswers

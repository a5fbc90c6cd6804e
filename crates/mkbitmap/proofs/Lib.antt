-- Lemmas about sums over boxes, reliefs and the rows of the larger page.
pub mod BoxSums
pub mod ReliefBounds
pub mod FilledLists
pub mod PixelPlaces
pub mod Bytes
pub mod RingRows
pub mod RaisedReliefs
pub mod LargerRows
pub mod Mixtures
pub mod Order
pub mod Examples

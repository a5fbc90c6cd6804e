-- A walk along boundary edges stays on them, never turns back, and can be followed backwards.
pub mod Back
mod Examples
mod Majorities
pub mod OnPage
mod Rings
pub mod TurnedEdges
pub mod SumsBelow
pub mod RingMasks
pub mod Square

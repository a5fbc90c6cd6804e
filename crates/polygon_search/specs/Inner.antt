-- What inner contracts alone speak of: no promise rests on it.
pub mod BlockLeasts
pub mod Joining
pub mod Lasts
pub mod OnePenalty
pub mod Search
pub mod VertexBounds
pub mod Within

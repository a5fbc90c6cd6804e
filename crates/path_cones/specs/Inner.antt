-- What inner contracts alone speak of: no promise rests on it.
pub mod Codes
pub mod Cones
pub mod Corners
pub mod Funnels
pub mod Mirrors
pub mod Slopes
pub mod Stairs
pub mod Strips
pub mod Swings
pub mod Tails
pub mod Wedges

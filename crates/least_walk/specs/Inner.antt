-- What inner contracts alone speak of: no promise rests on it.
pub mod MarkedPlaces
pub mod Suffix
pub mod Windows

-- What inner contracts alone speak of: no promise rests on it.
pub mod Desks
pub mod Entries
pub mod Held
pub mod ItemsDone

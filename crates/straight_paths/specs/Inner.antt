-- What inner contracts alone speak of: no promise rests on it.
pub mod Courses
pub mod NextSteps
pub mod Sweeps
pub mod Tables

-- What inner contracts alone speak of: no promise rests on it.
pub mod HalfPenalties
pub mod Products

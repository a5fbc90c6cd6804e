pub mod AskedFor

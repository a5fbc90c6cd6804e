pub mod Generator
pub mod Picture

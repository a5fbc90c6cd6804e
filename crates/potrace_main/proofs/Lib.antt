pub mod Completing
pub mod Found
pub mod Levels
pub mod Lines
pub mod OneText
pub mod Sameness

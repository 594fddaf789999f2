pub mod Links
pub mod Levels

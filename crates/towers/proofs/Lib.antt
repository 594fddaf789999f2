pub mod Levels
pub mod Ways
pub mod Climbs
pub mod Heads

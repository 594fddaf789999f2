pub mod Stores
pub mod Begins
pub mod Words
pub mod Marks
pub mod Taking
pub mod Skips

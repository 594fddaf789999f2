pub mod Checks
pub mod Gets
pub mod Changes

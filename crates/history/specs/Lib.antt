pub mod Functions
pub mod Runs
pub mod Tables

pub mod Functions
pub mod Runs
pub mod Answers
pub mod Tables

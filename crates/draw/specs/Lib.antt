pub mod Writing
pub mod Hands

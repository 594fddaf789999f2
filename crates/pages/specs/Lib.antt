pub mod Places
pub mod Begins
pub mod Kinds
pub mod Taking

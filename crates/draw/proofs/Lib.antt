pub mod Writes
pub mod Hands
pub mod Chains
pub mod Gives
pub mod Listings
pub mod Keeps
pub mod Takes
pub mod Draws

pub mod Lists
pub mod Maps
pub mod Chains
pub mod FreeList
pub mod Owned
pub mod Claims

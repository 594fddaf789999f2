pub mod Giving
pub mod Owning
pub mod Unlinkings
pub mod Leavings
pub mod Removals

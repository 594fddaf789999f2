pub mod Gone
pub mod Towers
pub mod Unlinks
pub mod Leaves
pub mod Removes

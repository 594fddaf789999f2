pub mod Written
pub mod Standing
pub mod Leading
pub mod Behind
pub mod Owner
pub mod Relinked
